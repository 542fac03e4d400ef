use Rattle.std.proofs.Common.{◌≡◌, drop}
use Rattle.jc_effects.specs.Parts.{differences_of}
use Rattle.jc_effects.specs.Places.{differs_at}
use Rattle.jc_effects.proofs.places.differs_at.Given as goal

-- what is asked of the rest of the path is what was asked of the whole
abbrev pub invariant-loop-tagged : goal.invariant-loop-tagged
invariant-loop-tagged l = differs_at (drop l.tagged-index l.path) l.key (differences_of l.inside) ≡ differs_at l.path l.key (differences_of l.effects)
