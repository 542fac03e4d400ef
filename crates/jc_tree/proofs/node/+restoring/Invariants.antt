use Rattle.std.proofs.Common.{◌+◌, ◌*◌, length}
use Rattle.jc_tree.proofs.node.+restoring.Given as goal

abbrev pub decreases-Node::restore_at : goal.decreases-Node::restore_at
decreases-Node::restore_at l = 2 * length l.at.now

abbrev pub decreases-restore_in : goal.decreases-restore_in
decreases-restore_in l = 2 * length l.at.now + 1
