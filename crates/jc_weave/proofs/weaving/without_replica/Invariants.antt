use Rattle.std.proofs.Common.{◌≡◌, ◌++◌, length}
use Rattle.jc_weave.specs.Looms.{without_replica}
use Rattle.jc_weave.proofs.weaving.without_replica.Given as goal

abbrev pub invariant-loop-q : goal.invariant-loop-q
invariant-loop-q l = l.kept.items ++ without_replica l.p l.rest ≡ without_replica l.p l.fn.live

abbrev pub decreases-loop-q : goal.decreases-loop-q
decreases-loop-q l = length l.rest
