use Rattle.std.proofs.Common.{◌≡◌, ◌≢◌, ℕ, zero, suc, ◌<◌, ◌≤◌, ◌+◌, [], ◌∷◌, ◌++◌, length, Some, true, false, ◌⊎◌, refl, sym, ◌∙◌, ap, arith}
use Rattle.std.proofs.lemmas.Bool.{cases_order}
use Rattle.std.proofs.lemmas.Option.{same_Some}
use mathlib.Core.Logic.{inl, inr}
use Rattle.jc_tree.specs.Named.{path_at, path_in, child_key}
use Rattle.jc_tree.proofs.NamedLemmas.{path_of_index, no_path_past, no_path}
use Rattle.jc_tree.proofs.plain.PlainTree.place_below.Goals as goal

pub returns-then-is_child : goal.returns-then-is_child
returns-then-is_child c =
    let paths = c.args.self.now.paths.items in
    path_of_index paths c.loop-index.index c.path-item.result (rw c.deref-path-items.ensures.value at c.loop-index-test.true) (rw c.deref-path-items.ensures.value at c.path-item.is) ∙ ap (λ at. Some at) (sym c.as_slice.ensures.value ∙ c.if-is_child.ensures.0 refl)

pub loop-index-preserved : goal.loop-index-preserved
loop-index-preserved c n before is = go (cases_order n (c.loop-index.index + 1))
  where
    here : n ≡ c.loop-index.index + 1 → ⊥
    here e =
        let paths = c.args.self.now.paths.items in
        let found = path_of_index paths c.loop-index.index c.path-item.result (rw c.deref-path-items.ensures.value at c.loop-index-test.true) (rw c.deref-path-items.ensures.value at c.path-item.is) in
        let no : false ≡ true = c.if-is_child.ensures.1 (c.as_slice.ensures.value ∙ same_Some _ _ (sym found ∙ rw e at is)) in
        cc

    go : (n ≡ c.loop-index.index + 1) ⊎ ((n < c.loop-index.index + 1) ⊎ (c.loop-index.index + 1 < n)) → ⊥
    go (inl e) = here e
    go (inr (inl l)) = c.loop-index.invariant n (omega (arith, l)) is
    go (inr (inr l)) = let no : ⊥ = omega (arith, l, before) in no

pub unreachable-requires : goal.unreachable-requires
unreachable-requires c = c.requires each
  where
    past : (m : ℕ) → c.loop-index.index ≤ m → path_in c.args.self.now.paths.items m ≢ Some (c.args.at.now ++ child_key c.args.is_list c.args.key.now ∷ [])
    past m l is =
        let end : length c.args.self.now.paths.items ≤ c.loop-index.index = rw c.deref-path-items.ensures.value at c.loop-index-test.false in
        no_path (sym (no_path_past c.args.self.now.paths.items m (omega (arith, end, l))) ∙ is)

    each : (n : ℕ) → path_at c.args.self.now.paths.items n ≢ Some (c.args.at.now ++ child_key c.args.is_list c.args.key.now ∷ [])
    each n is = go n (cases_order n (c.loop-index.index + 1)) is
      where
        go : (n : ℕ) → (n ≡ c.loop-index.index + 1) ⊎ ((n < c.loop-index.index + 1) ⊎ (c.loop-index.index + 1 < n)) → path_at c.args.self.now.paths.items n ≢ Some (c.args.at.now ++ child_key c.args.is_list c.args.key.now ∷ [])
        go n (inr (inl l)) is = c.loop-index.invariant n (omega (arith, l)) is
        go zero (inl e) is = let no : ⊥ = omega (arith, e) in no
        go zero (inr (inr l)) is = let no : ⊥ = omega (arith, l) in no
        go (suc m) (inl e) is = past m (omega (arith, e)) is
        go (suc m) (inr (inr l)) is = past m (omega (arith, l)) is
