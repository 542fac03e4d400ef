use Rattle.std.proofs.Common.{IsTrue, ◌↔◌, sym, ◌∙◌, arith}
use Rattle.std.proofs.lemmas.Result.{IfOk-weaker}
use Rattle.jc_rules.specs.declared.key.Tagged.TheVariants.{MapT, ListT}
use Rattle.jc_rules.specs.WellFormed.{IsWellFormedContext}
use Rattle.jc_tree.specs.Tree.{here}
use Rattle.jc_meaning.specs.Compared.{SameTree, IsSameKey, HasKeys}
use Rattle.jc_meaning.proofs.ComparedContextsLemmas.{is_below, kept_here, one_more, at_keys, keys_same, decided}
use Rattle.jc_meaning.proofs.sameness.+walk.Goals as goal

pub same_key-same_child-requires : goal.same_key-same_child-requires
same_key-same_child-requires g t c κs within =
    let left = is_below (g.S.TreeStore.tree c.args.left.now) (g.met.S.TreeStore.one c.args.left.now) (g.met.S.TreeStore.there c.args.left.now) c.args.key.place c.requires.left in
    let right = is_below (g.T.TreeStore.tree c.args.right.now) (g.met.T.TreeStore.one c.args.right.now) (g.met.T.TreeStore.there c.args.right.now) c.args.other c.requires.right in
    let x = left (MapT c.args.key.key.now) tt c.map_by-map.result c.map_by-map.ensures.some c.map_by-map.ensures.named in
    let y = right (MapT c.args.key.key.now) tt c.map_by-other_map.result c.map_by-other_map.ensures.some c.map_by-other_map.ensures.named in
    (omega (arith, x.fewer, c.decreases), (within.0, (within.1, (x.named, y.named))))

pub same_key-returns-then-not-branch : goal.same_key-returns-then-not-branch
same_key-returns-then-not-branch g t c =
    let left = is_below (g.S.TreeStore.tree c.args.left.now) (g.met.S.TreeStore.one c.args.left.now) (g.met.S.TreeStore.there c.args.left.now) c.args.key.place c.requires.left in
    let right = is_below (g.T.TreeStore.tree c.args.right.now) (g.met.T.TreeStore.one c.args.right.now) (g.met.T.TreeStore.there c.args.right.now) c.args.other c.requires.right in
    let x = left (MapT c.args.key.key.now) tt c.map_by-map.result c.map_by-map.ensures.some c.map_by-map.ensures.named in
    let y = right (MapT c.args.key.key.now) tt c.map_by-other_map.result c.map_by-other_map.ensures.some c.map_by-other_map.ensures.named in
    let maps = rw (x.is, y.is) at c.in_ok-same_child.ensures in
    (λ s. cc, λ s. sym c.if-not-branch.true ∙ maps.1 s.maps)

pub same_key-same_child-requires-2 : goal.same_key-same_child-requires-2
same_key-same_child-requires-2 g t c κs within =
    let left = is_below (g.S.TreeStore.tree c.args.left.now) (g.met.S.TreeStore.one c.args.left.now) (g.met.S.TreeStore.there c.args.left.now) c.args.key.place c.requires.left in
    let right = is_below (g.T.TreeStore.tree c.args.right.now) (g.met.T.TreeStore.one c.args.right.now) (g.met.T.TreeStore.there c.args.right.now) c.args.other c.requires.right in
    let x = left (ListT c.args.key.key.now) tt c.list_by-list.result c.list_by-list.ensures.some c.list_by-list.ensures.named in
    let y = right (ListT c.args.key.key.now) tt c.list_by-other_list.result c.list_by-other_list.ensures.some c.list_by-other_list.ensures.named in
    (omega (arith, x.fewer, c.decreases), (within.0, (within.1, (x.named, y.named))))

pub same_key-returns : goal.same_key-returns
same_key-returns g t c =
    let left = is_below (g.S.TreeStore.tree c.args.left.now) (g.met.S.TreeStore.one c.args.left.now) (g.met.S.TreeStore.there c.args.left.now) c.args.key.place c.requires.left in
    let right = is_below (g.T.TreeStore.tree c.args.right.now) (g.met.T.TreeStore.one c.args.right.now) (g.met.T.TreeStore.there c.args.right.now) c.args.other c.requires.right in
    let x = left (MapT c.args.key.key.now) tt c.map_by-map.result c.map_by-map.ensures.some c.map_by-map.ensures.named in
    let y = right (MapT c.args.key.key.now) tt c.map_by-other_map.result c.map_by-other_map.ensures.some c.map_by-other_map.ensures.named in
    let maps = rw (x.is, y.is) at c.in_ok-same_child.ensures in
    let z = left (ListT c.args.key.key.now) tt c.list_by-list.result c.list_by-list.ensures.some c.list_by-list.ensures.named in
    let w = right (ListT c.args.key.key.now) tt c.list_by-other_list.result c.list_by-other_list.ensures.some c.list_by-other_list.ensures.named in
    IfOk-weaker c.same_child-2.result _ _ (λ same h. (λ s. record { maps = maps.0 c.if-not-branch.false; lists = h.0 s; entries = c.same_entries.ensures.0 c.if-not-same_entries.false }, λ s. h.1 s.lists)) (rw (z.is, w.is) at c.same_child-2.ensures)

pub same_place-loop-lent-preserved : goal.same_place-loop-lent-preserved
same_place-loop-lent-preserved g t c =
    one_more (IsSameKey (here (g.S.TreeStore.path c.args.left.now c.args.place) (g.S.TreeStore.tree c.args.left.now)) (here (g.T.TreeStore.path c.args.right.now c.args.other) (g.T.TreeStore.tree c.args.right.now))) c.as_slice-lent-items.result.now c.loop-lent.lent-index c.lent-item.result c.loop-lent-test.true c.lent-item.is (c.in_ok-same_key.ensures.0 c.if-not-branch.false) c.loop-lent.invariant

pub same_place-returns-then-not-branch : goal.same_place-returns-then-not-branch
same_place-returns-then-not-branch g t c =
    let left = g.S.TreeStore.tree c.args.left.now in
    let right = g.T.TreeStore.tree c.args.right.now in
    let at = g.S.TreeStore.path c.args.left.now c.args.place in
    let to = g.T.TreeStore.path c.args.right.now c.args.other in
    let kl : IsWellFormedContext (here at left) = kept_here at left (g.met.S.TreeStore.there c.args.left.now c.args.place at c.requires.left) (g.met.S.TreeStore.kept c.args.left.now) in
    let kr : IsWellFormedContext (here to right) = kept_here to right (g.met.T.TreeStore.there c.args.right.now c.args.other to c.requires.right) (g.met.T.TreeStore.kept c.args.right.now) in
    (λ s. cc, λ e. sym c.if-not-branch.true ∙ c.in_ok-same_key.ensures.1 (keys_same (here at left) (here to right) kl kr e c.lent-item.result.0.now))

pub same_place-returns : goal.same_place-returns
same_place-returns g t c =
    let left = g.S.TreeStore.tree c.args.left.now in
    let right = g.T.TreeStore.tree c.args.right.now in
    let at = g.S.TreeStore.path c.args.left.now c.args.place in
    let to = g.T.TreeStore.path c.args.right.now c.args.other in
    let kl : IsWellFormedContext (here at left) = kept_here at left (g.met.S.TreeStore.there c.args.left.now c.args.place at c.requires.left) (g.met.S.TreeStore.kept c.args.left.now) in
    let kr : IsWellFormedContext (here to right) = kept_here to right (g.met.T.TreeStore.there c.args.right.now c.args.other to c.requires.right) (g.met.T.TreeStore.kept c.args.right.now) in
    let walked = at_keys (IsSameKey (here at left) (here to right)) c.as_slice-lent-items.result.now c.in_ok-keys.keys.items c.loop-lent.lent-index (here at left) c.as_slice-lent-items.ensures.value (c.in_ok-keys.ensures.all at c.requires.left) c.loop-lent-test.false c.loop-lent.invariant in
    let d = decided (here at left) (here to right) kl kr walked in
    IfOk-weaker c.has_keys.result (λ has. IsTrue has ↔ HasKeys (here at left) (here to right)) (λ same. IsTrue same ↔ SameTree (here at left) (here to right)) (λ same h. (λ s. d.0 (h.0 s), λ e. h.1 (d.1 e))) c.has_keys.ensures
