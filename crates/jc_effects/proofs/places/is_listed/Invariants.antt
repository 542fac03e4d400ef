use Rattle.std.proofs.Common.{◌≡◌}
use Rattle.jc_effects.specs.Difference.{is_listed}
use Rattle.jc_effects.specs.Parts.{differences_of}
use Rattle.jc_effects.proofs.places.is_listed.Given as goal

-- the places before are of other keys
abbrev pub invariant-loop-rest : goal.invariant-loop-rest
invariant-loop-rest l = is_listed l.key (differences_of l.rest) ≡ is_listed l.key (differences_of l.effects)
