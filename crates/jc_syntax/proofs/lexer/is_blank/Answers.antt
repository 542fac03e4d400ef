use Rattle.std.proofs.Common.{rules}
use Rattle.jc_syntax.proofs.lexer.is_blank.Goals as goal

-- the four blanks, and no other byte
pub returns-then-byte-eq13 : goal.returns-then-byte-eq13
returns-then-byte-eq13 c = search rules

pub returns-else-byte-eq13 : goal.returns-else-byte-eq13
returns-else-byte-eq13 c = search rules
