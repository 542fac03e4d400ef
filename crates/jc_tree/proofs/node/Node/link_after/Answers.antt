use Rattle.std.proofs.Common.{rules}
use Rattle.jc_tree.proofs.node.Node.link_after.Goals as goal

pub returns : goal.returns
returns c = search rules
