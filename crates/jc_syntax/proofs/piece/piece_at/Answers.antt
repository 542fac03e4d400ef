use Rattle.std.proofs.Common.{rules}
use Rattle.jc_syntax.specs.Strings.{piece_at}
use Rattle.jc_syntax.proofs.piece.piece_at.Goals as goal

-- a byte that stands for itself
pub returns-in_default-2-clause-value : goal.returns-in_default-2-clause-value
unfolding piece_at
returns-in_default-2-clause-value c = search rules
