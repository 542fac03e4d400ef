use Rattle.std.proofs.Common.{rules}
use Rattle.jc_syntax.proofs.piece.short_escape.Goals as goal

-- a line feed
pub returns-in-110 : goal.returns-in-110
returns-in-110 c = search rules
