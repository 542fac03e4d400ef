use Rattle.std.proofs.Common.{map, subst}
use Rattle.std.proofs.lemmas.Result.{on_ok_weaker}
use Rattle.json.specs.Json.{Items, array}
use Rattle.json.specs.Tree.{json_tokens}
use Rattle.jc_effects.specs.EffectsJson.{as_items, id_json}
use Rattle.jc_json.specs.Gains.{Gains}
use Rattle.jc_json.proofs.GainsLemmas.{gains_one}
use Rattle.jc_effects.proofs.PartsTokensLemmas.{some_written, items_empty, id_items}
use Rattle.jc_effects.proofs.writing.write_some_ids.Goals as goal

pub returns : goal.returns
returns c =
    let names = c.args.names.now in
    let ids = c.args.ids.now in
    let items = as_items (map (id_json names) ids) in
    on_ok_weaker c.write_ids.result
    (λ x. some_written _ _ _ c.args.name.now items (items_empty (id_json names) ids c.is_empty.result c.is_empty.ensures c.if-is_empty.false) (gains_one _ _ _ _ _ c.in_ok-key.was c.key.ensures)
    (subst (λ (is : Items). Gains c.key.new.self c.write_ids.new.out (json_tokens (array is))) (id_items names ids) x))
    c.write_ids.ensures
