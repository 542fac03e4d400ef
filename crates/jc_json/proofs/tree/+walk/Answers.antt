use Rattle.std.proofs.Common.{rules, ◌≡◌, [], ◌∷◌, ◌++◌, length, get_or, string_bytes, Some, refl, sym, ◌∙◌, subst, arith}
use Rattle.std.proofs.lemmas.Result.{on_ok_weaker}
use Rattle.serde.specs.Event.{Logs, map_begins, field_key}
use Rattle.serde.specs.declared.name.Case.TheVariants.{AsIs}
use Rattle.serde_json.specs.Events.{SendsValue}
use Rattle.jc_rules.specs.declared.key.Tagged.{Tagged}
use Rattle.jc_rules.proofs.RisingLemmas.{all_at}
use Rattle.jc_tree.specs.Tree.{here}
use Rattle.jc_json.specs.declared.tree.Member.{Member}
use Rattle.jc_json.specs.Parts.{by_place, part_data, IsPartAt, name_of, members_data, AreMembersOf}
use Rattle.jc_json.proofs.PartsPlacesLemmas.{part_smaller}
use Rattle.jc_json.proofs.PartsSendLemmas.{members_len-data, next_member, members_end}
use Rattle.jc_json.proofs.tree.+walk.Goals as goal

pub send_tree-loop-member-init : goal.send_tree-loop-member-init
send_tree-loop-member-init g t c =
    let store = c.args.tree.now.store.now in
    let tree = g.S.TreeStore.tree store in
    let texts = rw c.in_ok-texts.ensures at c.texts_at.ensures.texts in
    let members = rw c.in_ok-members.ensures at c.members_at.ensures in (
      λ at named. subst (AreMembersOf (g.S.TreeStore.names store) (by_place (g.S.TreeStore.path store) tree) at c.args.tree.now.names.now (here at tree)) (sym c.as_slice-member-items.ensures.value) (members at named c.args.tree.now.names.now (texts at named)),
      λ end more. more,
    )

pub send_tree-send_part-requires : goal.send_tree-send_part-requires
send_tree-send_part-requires g t c κs within =
    let store = c.args.tree.now.store.now in
    let tree = g.S.TreeStore.tree store in
    let path = g.S.TreeStore.path store in
    let named = g.S.TreeStore.names store in
    let at = c.requires.0 in
    let items = c.as_slice-member-items.result.now in
    let member = c.member-item.result in
    let P : Member → Type 0 = λ m. (t : Tagged) × IsPartAt named (at ++ t ∷ []) m.part in
    let item : P (get_or items c.loop-member.member-index member) = all_at P items (c.loop-member.invariant.0 at c.requires.1).parts c.loop-member.member-index member (omega arith) in
    let below : P member = subst P (sym c.member-item.is) item in
    let small = part_smaller named path tree (g.met.S.TreeStore.one store) (g.met.S.TreeStore.there store) c.args.place at below.0 member.part c.requires.1 below.1 in
    (omega (arith, small, c.decreases), (within.0, (within.1.0, (within.1.1, (at ++ below.0 ∷ [], below.1)))))

pub send_tree-loop-member-preserved : goal.send_tree-loop-member-preserved
send_tree-loop-member-preserved g t c =
    let store = c.args.tree.now.store.now in
    let names = c.args.tree.now.names.now in
    let contexts = by_place (g.S.TreeStore.path store) (g.S.TreeStore.tree store) in
    let members = c.as_slice-member-items.result.now in
    let member = c.member-item.result in
    let old = g.W.Serializer.written c.loop-member.out in
    let named = g.W.Serializer.written c.key.new.self in
    let name : string_bytes c.write_name.new.name ≡ name_of member = rw c.in_ok-granted.ensures at c.write_name.ensures in
    let key : Logs old named (field_key (name_of member) AsIs) = subst (λ s. Logs old named (field_key s AsIs)) (c.as_str.ensures.value ∙ name) c.in_ok-key.ensures in (
      c.loop-member.invariant.0,
      next_member (members_data names contexts) members c.loop-member.member-index _ _ name_of (λ (m : Member). part_data names contexts m.part) member member named _ (λ y ys. refl) (omega arith) c.member-item.is key c.in_ok-send_part.ensures c.loop-member.invariant.1,
    )

pub send_tree-returns : goal.send_tree-returns
send_tree-returns g t c = λ at named.
    let store = c.args.tree.now.store.now in
    let names = c.args.tree.now.names.now in
    let contexts = by_place (g.S.TreeStore.path store) (g.S.TreeStore.tree store) in
    let members = c.as_slice-member-items.result.now in
    let start = g.W.Serializer.written c.args.out.now in
    let first = g.W.Serializer.written c.begin_map.new.self in
    let end = g.W.Serializer.written c.end_map.new.self in
    let len : c.len.result ≡ length members = search rules in
    let begun = subst (λ n. Logs start first (map_begins (Some n))) (len ∙ sym (members_len-data names contexts members)) c.in_ok-begin_map.ensures in
    on_ok_weaker c.end_map.result (λ e.
    subst (λ v. SendsValue v start end) (c.loop-member.invariant.0 at named).shown (
      first,
      begun,
      members_end (members_data names contexts) members c.loop-member.member-index first _ end refl (omega arith) e c.loop-member.invariant.1,
    ))
    c.end_map.ensures
