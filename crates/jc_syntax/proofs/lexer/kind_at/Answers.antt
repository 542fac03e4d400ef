use Rattle.std.proofs.Common.{rules}
use Rattle.jc_syntax.proofs.lexer.kind_at.Goals as goal

-- a colon before an equals sign
pub returns-in-58 : goal.returns-in-58
returns-in-58 c = search rules
