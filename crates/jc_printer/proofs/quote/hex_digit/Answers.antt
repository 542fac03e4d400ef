use Rattle.std.proofs.Common.{rules}
use Rattle.jc_printer.proofs.quote.hex_digit.Goals as goal

-- letters in lower case
pub returns-else-digit-lt10 : goal.returns-else-digit-lt10
returns-else-digit-lt10 c = search rules
