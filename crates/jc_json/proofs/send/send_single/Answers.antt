use Rattle.std.proofs.Common.{◌≡◌, string_bytes, ◌∙◌, subst}
use Rattle.std.proofs.lemmas.Result.{IfOk-at_ok, on_ok_weaker}
use Rattle.serde.specs.Event.{Logs, field_key}
use Rattle.serde.specs.declared.name.Case.TheVariants.{AsIs}
use Rattle.jc_json.specs.Json.{id_text, value_data}
use Rattle.jc_json.proofs.PartsSendLemmas.{one_sent}
use Rattle.jc_json.proofs.send.send_single.Goals as goal

pub returns : goal.returns
returns g c =
    let name = id_text c.args.names.now c.args.id in
    let begun = g.W.Serializer.written c.begin_map.new.self in
    let named = g.W.Serializer.written c.key.new.self in
    let text : c.as_str.result.now ≡ name = c.as_str.ensures.value ∙ IfOk-at_ok (λ s. string_bytes s ≡ name) c.in_ok-name.ensures c.id_text.ensures in
    let key : Logs begun named (field_key name AsIs) = subst (λ t. Logs begun named (field_key t AsIs)) text c.in_ok-key.ensures in
    on_ok_weaker c.end_map.result (λ e. one_sent name (value_data c.args.value.now) _ begun named _ _ c.in_ok-begin_map.ensures key c.in_ok-send_plain.ensures e) c.end_map.ensures
