use Rattle.std.proofs.Common.{rules}
use Rattle.jc_syntax.proofs.piece.Piece.size.Goals as goal

-- the bytes of a character
pub returns-in-Escape-clause-size : goal.returns-in-Escape-clause-size
returns-in-Escape-clause-size c = search rules
