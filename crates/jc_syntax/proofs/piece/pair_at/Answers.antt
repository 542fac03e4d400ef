use Rattle.std.proofs.Common.{rules}
use Rattle.jc_syntax.proofs.piece.pair_at.Goals as goal

-- a high surrogate without a low one
pub returns-in_default-clause-value : goal.returns-in_default-clause-value
returns-in_default-clause-value c = search rules

pub returns-in_default-2-clause-value : goal.returns-in_default-2-clause-value
returns-in_default-2-clause-value c = search rules
