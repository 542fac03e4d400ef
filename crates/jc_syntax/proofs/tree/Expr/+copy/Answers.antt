use Rattle.std.proofs.Common.{rules}
use Rattle.jc_syntax.proofs.tree.Expr.+copy.Goals as goal

-- the expression that was copied
pub returns : goal.returns
returns t c = search rules
