use Rattle.std.proofs.Common.{◌≡◌, ◌++◌, length}
use Rattle.jc_weave.specs.Looms.{eager_of}
use Rattle.jc_weave.proofs.drawing.eager_of.Given as goal

abbrev pub invariant-loop-p : goal.invariant-loop-p
invariant-loop-p l = l.some.items ++ eager_of l.net.history.now.states l.phases l.rest ≡ eager_of l.net.history.now.states l.phases l.fn.live

abbrev pub decreases-loop-p : goal.decreases-loop-p
decreases-loop-p l = length l.rest
