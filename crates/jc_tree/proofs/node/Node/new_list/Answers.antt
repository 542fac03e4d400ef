use Rattle.std.proofs.Common.{rules}
use Rattle.jc_tree.proofs.node.Node.new_list.Goals as goal

pub returns : goal.returns
returns c = search rules
