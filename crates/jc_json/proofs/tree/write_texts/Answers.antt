use Rattle.std.proofs.Common.{rules, ◌≡◌, ℕ, ◌++◌, ◌-◌, length, take, length-append, string_bytes, sym, ap, subst, arith}
use Rattle.std.proofs.lemmas.List.{map_more, take_all}
use Rattle.jc_tree.specs.Tree.{keys_lent}
use Rattle.jc_json.specs.Json.{closed_text}
use Rattle.jc_json.specs.Parts.{AreJoined}
use Rattle.jc_json.proofs.PartsJoinedLemmas.{joined_begins, joined_goes_on}
use Rattle.jc_json.proofs.tree.write_texts.Goals as goal

pub loop-lent-init : goal.loop-lent-init
loop-lent-init c = joined_begins c.args.names.now _ _ c.clear.ensures.bytes c.in_ok-lens.ensures.items

pub loop-lent-preserved : goal.loop-lent-preserved
loop-lent-preserved c =
    let names = c.args.names.now in
    let keys = c.args.keys.now in
    let i = c.loop-lent.lent-index in
    let lent = c.lent-item.result in
    let text : string_bytes c.push_closed.new.text ≡ string_bytes c.loop-lent.all ++ closed_text names lent.0.now = c.in_ok-push_closed.ensures in
    let before : c.len-before.result ≡ length (string_bytes c.loop-lent.all) = search rules in
    let after : c.len.result ≡ length (string_bytes c.push_closed.new.text) = search rules in
    let long : c.len.result - c.len-before.result ≡ length (closed_text names lent.0.now) =
    omega (arith, before, after, ap (length {A = ℕ}) text, length-append (string_bytes c.loop-lent.all) (closed_text names lent.0.now)) in
    rw (map_more (λ l. l.0.now) keys i lent (omega arith), sym c.lent-item.is, c.in_ok-push.ensures.items)
    (joined_goes_on names (keys_lent (take i keys)) lent.0.now _ _ _ _ text long c.loop-lent.invariant)

pub returns : goal.returns
returns c =
    subst (λ ks. AreJoined c.args.names.now (keys_lent ks) (string_bytes c.loop-lent.all) c.loop-lent.lens.items) (take_all c.loop-lent.lent-index c.args.keys.now (omega arith)) c.loop-lent.invariant
