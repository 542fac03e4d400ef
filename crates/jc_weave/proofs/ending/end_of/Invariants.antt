use Rattle.std.proofs.Common.{◌≡◌, length}
use Rattle.jc_weave.specs.Weaving.{end_in}
use Rattle.jc_weave.proofs.ending.end_of.Given as goal

abbrev pub invariant-loop-stuck : goal.invariant-loop-stuck
invariant-loop-stuck l = end_in l.rest l.net.history.now.states l.p ≡ end_in l.fn.stucks l.net.history.now.states l.p

abbrev pub decreases-loop-stuck : goal.decreases-loop-stuck
decreases-loop-stuck l = length l.rest
