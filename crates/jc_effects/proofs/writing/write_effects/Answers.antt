use Rattle.std.proofs.lemmas.Result.{on_ok_weaker}
use Rattle.jc_json.proofs.GainsLemmas.{gains_one}
use Rattle.jc_effects.specs.EffectsJson.{place_items}
use Rattle.jc_effects.specs.Parts.{differences_of}
use Rattle.jc_effects.proofs.PartsTokensLemmas.{array_written}
use Rattle.jc_effects.proofs.writing.write_effects.Goals as goal

pub returns : goal.returns
returns c =
    on_ok_weaker c.end_array.result
    (λ e. array_written _ _ _ _ (place_items c.args.names.now (differences_of c.args.effects.now)) (gains_one _ _ _ _ _ c.in_ok-begin_array.was c.begin_array.ensures) c.in_ok-write_places.ensures (record { before = c.end_array.ensures.room.0; tokens = e }))
    c.end_array.ensures.ok
