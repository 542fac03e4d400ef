use Rattle.std.proofs.Common.{rules}
use Rattle.jc_syntax.proofs.tree.Named.copy.Goals as goal

-- the name and the place that were copied
pub returns : goal.returns
returns c = search rules
