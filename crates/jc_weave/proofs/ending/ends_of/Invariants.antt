use Rattle.std.proofs.Common.{◌≡◌, ◌++◌, length, map}
use Rattle.jc_weave.specs.Weaving.{end_in}
use Rattle.jc_weave.proofs.ending.ends_of.Given as goal

abbrev pub invariant-loop-p : goal.invariant-loop-p
invariant-loop-p l = l.ends.items ++ map (end_in l.stucks l.net.history.now.states) l.rest ≡ map (end_in l.stucks l.net.history.now.states) l.fn.numbers

abbrev pub decreases-loop-p : goal.decreases-loop-p
decreases-loop-p l = length l.rest
