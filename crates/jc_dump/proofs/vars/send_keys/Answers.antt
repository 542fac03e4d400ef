use Rattle.std.proofs.Common.{map, Some, refl, sym, subst, arith}
use Rattle.std.proofs.lemmas.Result.{on_ok_weaker}
use Rattle.serde.specs.Event.{Logs, seq_begins, text}
use Rattle.serde_json.specs.Data.{string}
use Rattle.serde_json.specs.View.{items_of}
use Rattle.jc_json.proofs.PartsSendLemmas.{items_len-map, next_item, items_end}
use Rattle.jc_dump.proofs.vars.send_keys.Goals as goal

pub loop-key-preserved : goal.loop-key-preserved
loop-key-preserved g c =
    let key = c.key-item.result in
    let sent : Logs (g.W.Serializer.written c.loop-key.out) (g.W.Serializer.written c.str.new.self) (text key) = subst (λ t. Logs (g.W.Serializer.written c.loop-key.out) (g.W.Serializer.written c.str.new.self) (text t)) c.as_str.ensures c.in_ok-str.ensures in
    next_item (λ keys. items_of (map string keys)) c.args.keys.now c.loop-key.key-index _ _ string key key _ (λ x xs. refl) (omega arith) c.key-item.is sent c.loop-key.invariant

pub returns : goal.returns
returns g c =
    let keys = c.args.keys.now in
    let first = g.W.Serializer.written c.begin_seq.new.self in
    let begun = subst (λ n. Logs (g.W.Serializer.written c.args.out.now) first (seq_begins (Some n))) (sym (items_len-map string keys)) c.in_ok-begin_seq.ensures in
    on_ok_weaker c.end_seq.result (λ e. (first, begun, items_end (λ ks. items_of (map string ks)) keys c.loop-key.key-index first _ _ refl (omega arith) e c.loop-key.invariant)) c.end_seq.ensures
