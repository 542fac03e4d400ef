use Rattle.std.proofs.Common.{◌+◌, ◌*◌, length}
use Rattle.jc_tree.proofs.node.+changing.Given as goal

abbrev pub decreases-Node::change_at : goal.decreases-Node::change_at
decreases-Node::change_at l = 2 * length l.at.now

abbrev pub decreases-change_in : goal.decreases-change_in
decreases-change_in l = 2 * length l.at.now + 1
