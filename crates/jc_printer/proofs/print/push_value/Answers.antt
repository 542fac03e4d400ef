use Rattle.std.proofs.Common.{rules}
use Rattle.jc_printer.proofs.print.push_value.Goals as goal

-- a number is its text
pub returns-in-Number : goal.returns-in-Number
returns-in-Number c = search rules
