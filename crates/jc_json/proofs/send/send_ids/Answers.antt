use Rattle.std.proofs.Common.{◌≡◌, ◌++◌, map, get_or, Some, refl, sym, ap, ◌∙◌, subst, arith}
use Rattle.std.proofs.lemmas.List.{length-map}
use Rattle.std.proofs.lemmas.Result.{on_ok_weaker}
use Rattle.serde.specs.Event.{Logs, seq_begins}
use Rattle.serde_json.specs.Data.{string}
use Rattle.serde_json.specs.View.{items_of}
use Rattle.jc_rules.specs.declared.id.Id.{Id}
use Rattle.jc_json.specs.Json.{id_text}
use Rattle.jc_json.proofs.PartsSendLemmas.{items_len-map, next_item, items_end}
use Rattle.jc_json.proofs.send.send_ids.Goals as goal

pub loop-id-preserved : goal.loop-id-preserved
loop-id-preserved g c =
    let names = c.args.names.now in
    let ids = c.args.ids.now in
    let zero : Id = record { counter = 0; replica = 0 } in
    let id = get_or ids c.loop-id.id-index zero in
    let made = rw c.in_ok-granted.ensures at c.push_id.ensures in
    let text : c.as_str.result.now ≡ id_text names id = c.as_str.ensures.value ∙ made ∙ ap (λ bs. bs ++ id_text names id) c.clear.ensures.bytes in
    let sent : Logs (g.W.Serializer.written c.loop-id.out) (g.W.Serializer.written c.str.new.self) (Rattle.serde.specs.Event.text (id_text names id)) = subst (λ t. Logs (g.W.Serializer.written c.loop-id.out) (g.W.Serializer.written c.str.new.self) (Rattle.serde.specs.Event.text t)) text c.in_ok-str.ensures in
    next_item (λ is. items_of (map string (map (λ i. id_text names i) is))) ids c.loop-id.id-index _ _ (λ i. string (id_text names i)) id zero _ (λ x xs. refl) (omega arith) refl sent c.loop-id.invariant

pub returns : goal.returns
returns g c =
    let names = c.args.names.now in
    let ids = c.args.ids.now in
    let texts = map (λ i. id_text names i) ids in
    let first = g.W.Serializer.written c.begin_seq.new.self in
    let begun = subst (λ n. Logs (g.W.Serializer.written c.args.out.now) first (seq_begins (Some n))) (sym (items_len-map string texts ∙ length-map ids (λ i. id_text names i))) c.in_ok-begin_seq.ensures in
    on_ok_weaker c.end_seq.result (λ e. (first, begun, items_end (λ is. items_of (map string (map (λ i. id_text names i) is))) ids c.loop-id.id-index first _ _ refl (omega arith) e c.loop-id.invariant)) c.end_seq.ensures
