use Rattle.std.proofs.Common.{rules}
use Rattle.jc_syntax.proofs.extent.is_number_byte.Goals as goal

-- the bytes of a number
pub returns-then-byte-eq46 : goal.returns-then-byte-eq46
returns-then-byte-eq46 c = search rules

pub returns-else-byte-eq46 : goal.returns-else-byte-eq46
returns-else-byte-eq46 c = search rules
