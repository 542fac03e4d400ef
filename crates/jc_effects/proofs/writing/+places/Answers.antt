use Rattle.std.proofs.Common.{codes, sym, ◌∙◌, ap, subst}
use Rattle.std.proofs.lemmas.Result.{on_ok_weaker}
use Rattle.jc_json.specs.Gains.{Gains}
use Rattle.jc_json.proofs.GainsLemmas.{gains_one}
use Rattle.jc_effects.specs.declared.effects.Effects.{Effects}
use Rattle.jc_effects.specs.Difference.{Differences}
use Rattle.jc_effects.specs.EffectsJson.{some_items, place_items}
use Rattle.jc_effects.specs.Parts.{own_seen, differences_of, labelled_tokens, first_place_tokens}
use Rattle.jc_effects.proofs.PartsTokensLemmas.{some_written, array_written, places_none, place_written}
use Rattle.jc_effects.proofs.writing.+places.Goals as goal

pub write_inside-returns : goal.write_inside-returns
write_inside-returns t c =
    let x = differences_of c.args.effects.now in
    let js = place_items c.args.names.now x in
    on_ok_weaker c.end_array.result
    (λ e. some_written _ _ _ c.args.name.now js (places_none c.args.names.now x ∙ sym c.is_nothing.ensures ∙ c.if-is_nothing.false) (gains_one _ _ _ _ _ c.in_ok-key.was c.key.ensures)
    (array_written _ _ _ _ js (gains_one _ _ _ _ _ c.in_ok-begin_array.was c.begin_array.ensures) c.in_ok-write_places.ensures (record { before = c.end_array.ensures.room.0; tokens = e })))
    c.end_array.ensures.ok

pub write_first-returns : goal.write_first-returns
write_first-returns t c =
    let names = c.args.names.now in
    let k = c.in-Place.key in
    let lists : Gains c.write_front.new.out c.write_inside.new.out (labelled_tokens (some_items (codes "list") (place_items names (differences_of c.in-Place.list.value)))) =
    subst (λ (x : Effects). Gains c.write_front.new.out c.write_inside.new.out (labelled_tokens (some_items (codes "list") (place_items names (differences_of x))))) c.deref.ensures c.in_ok-write_inside.ensures in
    let maps : Gains c.write_middle.new.out c.write_inside-2.new.out (labelled_tokens (some_items (codes "map") (place_items names (differences_of c.in-Place.map.value)))) =
    subst (λ (x : Effects). Gains c.write_middle.new.out c.write_inside-2.new.out (labelled_tokens (some_items (codes "map") (place_items names (differences_of x))))) c.deref-2.ensures c.in_ok-write_inside-2.ensures in
    on_ok_weaker c.end_object.result
    (λ e. subst (λ (x : Differences). Gains c.args.out.now c.end_object.new.self (first_place_tokens names x)) (sym (ap differences_of c.in-Place.is))
    (place_written _ _ _ _ _ _ _ _ names k (own_seen k c.in-Place.own) (differences_of c.in-Place.map.value) (differences_of c.in-Place.list.value) (differences_of c.in-Place.field-4.value) (gains_one _ _ _ _ _ c.in_ok-begin_object.was c.begin_object.ensures) c.in_ok-write_front.ensures lists (c.in_ok-write_middle.ensures k) maps (c.in_ok-write_back.ensures k) (record { before = c.end_object.ensures.room.0; tokens = e })))
    c.end_object.ensures.ok
