use Rattle.std.proofs.Common.{◌≤◌}
use Rattle.jc_json.proofs.GainsLemmas.{Wrote}
use Rattle.jc_effects.specs.declared.effects.Effects.{size-Effects}
use Rattle.jc_effects.specs.EffectsJson.{place_items}
use Rattle.jc_effects.specs.Parts.{differences_of, item_tokens}
use Rattle.jc_effects.proofs.writing.+places.Given as goal

abbrev pub invariant-write_places-loop-effects : goal.invariant-write_places-loop-effects
invariant-write_places-loop-effects l =
    (size-Effects l.effects ≤ size-Effects l.initial.effects)
    × Wrote l.initial.out l.out (item_tokens (place_items l.names (differences_of l.effects))) (item_tokens (place_items l.names (differences_of l.initial.effects)))
