use Rattle.std.proofs.Common.{◌≡◌, length}
use Rattle.jc_replica.specs.Undo.{without_ops}
use Rattle.jc_replica.proofs.received.Received.withdraw.Given as goal

abbrev pub invariant-loop-last : goal.invariant-loop-last
invariant-loop-last l = without_ops l.left l.self ≡ without_ops l.fn.came l.initial.self

abbrev pub decreases-loop-last : goal.decreases-loop-last
decreases-loop-last l = length l.left
