use Rattle.std.proofs.Common.{rules, ◌≡◌, ◌∷◌, ◌+◌, drop, refl, sym, ap, ◌∙◌, subst}
use Rattle.std.proofs.lemmas.List.{drop_more, drop_all}
use Rattle.jc_tree.specs.Tree.{here}
use Rattle.jc_json.specs.declared.tree.Member.{Member}
use Rattle.jc_json.specs.Parts.{LentText, tag_of, by_place}
use Rattle.jc_json.proofs.PartsMembersLemmas.{AreSoFar, so_far_begins, so_far_skips, so_far_adds, so_far_ends}
use Rattle.jc_json.proofs.tree.members_of.Goals as goal
use Rattle.jc_json.proofs.tree.members_of.Goals.{in-Some+in_ok-put_last, in_default}

pub loop-text-init : goal.loop-text-init
loop-text-init g c = λ at named.
    let tree = g.S.TreeStore.tree c.args.store.now in
    let names = g.S.TreeStore.names c.args.store.now in
    let contexts = by_place (g.S.TreeStore.path c.args.store.now) tree in
    subst (AreSoFar names contexts at (here at tree) c.args.kind c.args.texts.now.items _) (sym c.new-members.ensures.items)
    (so_far_begins names contexts at (here at tree) c.args.kind c.args.texts.now.items _ c.as_slice-text-items.ensures.value c.requires.order)

pub loop-text-preserved : goal.loop-text-preserved
loop-text-preserved g c = λ at named.
    let tree = g.S.TreeStore.tree c.args.store.now in
    let names = g.S.TreeStore.names c.args.store.now in
    let contexts = by_place (g.S.TreeStore.path c.args.store.now) tree in
    let d = here at tree in
    let kind = c.args.kind in
    let all = c.args.texts.now.items in
    let items = c.as_slice-text-items.result.now in
    let i = c.loop-text.text-index in
    let old = c.loop-text.members.items in
    let entry : LentText = c.loop-text-item.result in
    let is : drop i items ≡ entry ∷ drop (i + 1) items = drop_more items i entry c.loop-text-test.true ∙ ap (λ (e : LentText). e ∷ drop (i + 1) items) (sym c.loop-text-item.is) in
    elim c.match-part_at.branch [
      | in-Some+in_ok-put_last w ↦
          let m : Member = record { kind = kind; text = entry.0.0; part = w.in-Some.part } in
          let new : c.match-part_at.members.items ≡ w.put_last.new.members.items = search rules in
          so_far_adds names contexts at d kind entry all (drop i items) (drop (i + 1) items) old is m (tag_of kind entry.1.0.now) refl refl
          (λ ns. w.in-Some.ensures.shown at named ns) (w.in-Some.ensures.part at named) c.match-part_at.members.items (new ∙ w.in_ok-put_last.ensures) (c.loop-text.invariant at named)
      | in_default w ↦
          let same : c.match-part_at.members.items ≡ old = search rules in
          subst (AreSoFar names contexts at d kind all (drop (i + 1) items)) (sym same)
          (so_far_skips names contexts at d kind entry all (drop i items) (drop (i + 1) items) old is (λ ns. w.in_default.ensures.shown at named ns) (c.loop-text.invariant at named))
    ]

pub returns : goal.returns
returns g c = λ at named.
    let tree = g.S.TreeStore.tree c.args.store.now in
    so_far_ends (g.S.TreeStore.names c.args.store.now) (by_place (g.S.TreeStore.path c.args.store.now) tree) at (here at tree) c.args.kind c.args.texts.now.items _ _ (drop_all c.loop-text.text-index c.as_slice-text-items.result.now c.loop-text-test.false) (c.loop-text.invariant at named)
