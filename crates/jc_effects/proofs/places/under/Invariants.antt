use Rattle.std.proofs.Common.{◌≡◌}
use Rattle.jc_effects.specs.Parts.{differences_of}
use Rattle.jc_effects.specs.Places.{differences_under}
use Rattle.jc_effects.proofs.places.under.Given as goal

-- the places before are of other keys
abbrev pub invariant-loop-rest : goal.invariant-loop-rest
invariant-loop-rest l = differences_under l.tagged (differences_of l.rest) ≡ differences_under l.tagged (differences_of l.effects)
