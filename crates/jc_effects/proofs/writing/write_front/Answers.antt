use Rattle.std.proofs.Common.{ℕ, List, [], ◌∷◌, codes, ◌∙◌, subst}
use Rattle.std.proofs.lemmas.Result.{on_ok_weaker}
use Rattle.json.specs.Json.{string}
use Rattle.json.specs.Token as T
use Rattle.jc_rules.specs.declared.id.Id.{Id}
use Rattle.jc_json.specs.Json.{key_text}
use Rattle.jc_json.specs.Gains.{Gains}
use Rattle.jc_json.proofs.GainsLemmas.{gains_one}
use Rattle.jc_effects.specs.EffectsJson.{some_ids}
use Rattle.jc_effects.specs.Parts.{labelled_tokens}
use Rattle.jc_effects.proofs.PartsTokensLemmas.{labelled_then, labelled_one}
use Rattle.jc_effects.proofs.writing.write_front.Goals as goal

pub returns : goal.returns
returns c =
    let names = c.args.names.now in
    let key = key_text names c.args.key.now in
    let ids : Gains c.args.out.now c.write_some_ids.new.out (labelled_tokens (some_ids names (codes "gained") c.args.own.now.gained.items)) =
    subst (λ (is : List Id). Gains c.args.out.now c.write_some_ids.new.out (labelled_tokens (some_ids names (codes "gained") is))) c.as_slice.ensures.value c.in_ok-write_some_ids.ensures in
    on_ok_weaker c.string.result
    (λ e. labelled_then _ _ _ (some_ids names (codes "gained") c.args.own.now.gained.items) ((codes "key", string key) ∷ []) ids
    (labelled_one _ _ _ (codes "key") (string key) (gains_one _ _ _ _ _ c.in_ok-key.was c.key.ensures)
    (subst (λ (s : List ℕ). Gains c.key.new.self c.string.new.self (T.string s ∷ [])) (c.as_str.ensures.value ∙ c.in_ok-text.ensures) (record { before = c.string.ensures.room.0; tokens = e }))))
    c.string.ensures.ok
