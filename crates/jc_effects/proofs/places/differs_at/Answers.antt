use Rattle.std.proofs.Common.{sym, ◌∙◌, ap}
use Rattle.jc_effects.specs.Parts.{or_nothing, differences_of}
use Rattle.jc_effects.proofs.PlacesLemmas.{nothing_under}
use Rattle.jc_effects.proofs.places.differs_at.Goals as goal

pub returns-in-None : goal.returns-in-None
returns-in-None c =
    let none = sym c.under.ensures ∙ ap or_nothing c.in-None.is in
    nothing_under c.args.path.now c.loop-tagged.tagged-index c.tagged-item.result c.args.key.now (differences_of c.loop-tagged.inside.now) _ c.loop-tagged-test.true c.tagged-item.is none c.loop-tagged.invariant
