use Rattle.std.proofs.Common.{◌≡◌, ◌++◌, length, map}
use Rattle.jc_choice.specs.Legal.{own_events}
use Rattle.jc_weave.proofs.ending.counts_of.Given as goal

abbrev pub invariant-loop-p : goal.invariant-loop-p
invariant-loop-p l = l.made.items ++ map (λ p. length (own_events l.schedule p)) l.rest ≡ map (λ p. length (own_events l.schedule p)) l.fn.numbers

abbrev pub decreases-loop-p : goal.decreases-loop-p
decreases-loop-p l = length l.rest
