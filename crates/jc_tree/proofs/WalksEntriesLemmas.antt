-- About Walks: the entries of rising keys, key after key.
use Rattle.std.proofs.Common.{◌≡◌, ◌⊎◌, inl, inr, ℕ, zero, suc, ◌<◌, List, [], ◌∷◌, ◌++◌, length, slice_index_or, Some, None, Contains, refl, sym, ◌∙◌, ap, subst, arith, append-nil, append_assoc}
use Rattle.std.specs.List.{AllByRecursion}
use Rattle.std.specs.declared.cmp.Ordering.{Ordering}
use Rattle.std.specs.declared.cmp.Ordering.TheVariants.{Less, Equal, Greater}
use Rattle.std.specs.Cmp.{tied_itself}
use Rattle.jc_rules.specs.declared.key.Key.{Key}
use Rattle.jc_rules.specs.Order.{key_cmp}
use Rattle.jc_rules.specs.Entries.{IsRising, keys_of, find}
use Rattle.jc_rules.proofs.OrderLemmas.{keys_total, exact_keys}
use Rattle.jc_rules.proofs.RisingLemmas.{less_greater}
use Rattle.jc_tree.specs.Walks.{entry_of, entries_at}

-- what holds of each of two lists holds of each of either
pub all-left : (P : Key → Type 0) (js ks : List Key) → AllByRecursion P (js ++ ks) → AllByRecursion P js
all-left P [] ks a = tt
all-left P (j ∷ js) ks a = (a.0, all-left P js ks a.1)

pub all-right : (P : Key → Type 0) (js ks : List Key) → AllByRecursion P (js ++ ks) → AllByRecursion P ks
all-right P [] ks a = a
all-right P (j ∷ js) ks a = all-right P js ks a.1

module _ {X : Type 0} where
  nothing_at : (ks : List Key) → entries_at {X = X} ks [] ≡ []
  nothing_at [] = refl
  nothing_at (k ∷ ks) = nothing_at ks

  absent : (k : Key) (es : List (Key × X)) → AllByRecursion (λ j. key_cmp k j ≡ Less) (keys_of es) → find key_cmp k es ≡ None
  absent k [] a = refl
  absent k (e ∷ es) a = rw a.0 (absent k es a.1)

  -- the first entry isn't one of greater keys
  passed : (ks : List Key) (e : Key × X) (es : List (Key × X)) → AllByRecursion (λ j. key_cmp e.0 j ≡ Less) ks → entries_at ks (e ∷ es) ≡ entries_at ks es
  passed [] e es a = refl
  passed (k ∷ ks) e es a =
      let f : find key_cmp k (e ∷ es) ≡ find key_cmp k es = rw (less_greater keys_total e.0 k a.0) refl in
      ap (λ o. entry_of k o ++ entries_at ks (e ∷ es)) f ∙ ap (λ fs. entry_of k (find key_cmp k es) ++ fs) (passed ks e es a.1)

either : (k j : Key) (ks : List Key) → Contains (k ∷ ks) j → (k ≡ j) ⊎ Contains ks j
either k j ks c = go c.0 c.1 c.2
  where
    go : (i : ℕ) → i < length (k ∷ ks) → slice_index_or (k ∷ ks) i j ≡ j → (k ≡ j) ⊎ Contains ks j
    go zero h e = inl e
    go (suc i) h e = inr (i, omega (arith, h), e)

-- a key that is greater than the first is among the others
among_rest : (k j : Key) (ks : List Key) → key_cmp k j ≡ Less → Contains (k ∷ ks) j → Contains ks j
among_rest k j ks h c = go (either k j ks c)
  where
    go : (k ≡ j) ⊎ Contains ks j → Contains ks j
    go (inl e) = absurd (let f : Equal ≡ Less = sym (tied_itself keys_total k) ∙ ap (key_cmp k) e ∙ h in let g : ⊥ = cc in g)
    go (inr d) = d

all_among_rest : (k : Key) (js ks : List Key) → AllByRecursion (λ j. key_cmp k j ≡ Less) js → AllByRecursion (Contains (k ∷ ks)) js → AllByRecursion (Contains ks) js
all_among_rest k [] ks a c = tt
all_among_rest k (j ∷ js) ks a c = (among_rest k j ks a.0 c.0, all_among_rest k js ks a.1 c.1)

below_too : (k j : Key) (js : List Key) → key_cmp k j ≡ Less → AllByRecursion (λ i. key_cmp j i ≡ Less) js → AllByRecursion (λ i. key_cmp k i ≡ Less) js
below_too k j [] h a = tt
below_too k j (i ∷ js) h a = (keys_total.trans k j i h a.0, below_too k j js h a.1)

holds_at : (P : Key → Type 0) (ks : List Key) (j : Key) → AllByRecursion P ks → Contains ks j → P j
holds_at P [] j a c = absurd (omega (arith, c.1))
holds_at P (k ∷ ks) j a c = go (either k j ks c) (λ d. holds_at P ks j a.1 d)
  where
    go : (k ≡ j) ⊎ Contains ks j → (Contains ks j → P j) → P j
    go (inl e) ih = subst P e a.0
    go (inr d) ih = ih d

-- rising keys, with those of all entries among them, find the entries as they are
pub all_entries : {X : Type 0} (ks : List Key) (es : List (Key × X)) → IsRising key_cmp ks → IsRising key_cmp (keys_of es) → AllByRecursion (Contains ks) (keys_of es) → entries_at ks es ≡ es
all_entries ks [] r s c = nothing_at ks
all_entries [] (e ∷ es) r s c = absurd (omega (arith, c.0.1))
all_entries (k ∷ ks) (e ∷ es) r s c = go (key_cmp k e.0) refl (λ d. all_entries ks (e ∷ es) r.1 s d) (λ d. all_entries ks es r.1 s.1 d)
  where
    go : (o : Ordering) → key_cmp k e.0 ≡ o → (AllByRecursion (Contains ks) (keys_of (e ∷ es)) → entries_at ks (e ∷ es) ≡ e ∷ es) → (AllByRecursion (Contains ks) (keys_of es) → entries_at ks es ≡ es)
        → entries_at (k ∷ ks) (e ∷ es) ≡ e ∷ es
    go Less f same next =
        let low = below_too k e.0 (keys_of es) f s.0 in
        ap (λ o. entry_of k o ++ entries_at ks (e ∷ es)) (absent k (e ∷ es) (f, low)) ∙ same (all_among_rest k (keys_of (e ∷ es)) ks (f, low) c)
    go Equal f same next =
        let is : k ≡ e.0 = exact_keys k e.0 f in
        let low : AllByRecursion (λ j. key_cmp k j ≡ Less) (keys_of es) = subst (λ (x : Key). AllByRecursion (λ j. key_cmp x j ≡ Less) (keys_of es)) (sym is) s.0 in
        let high : AllByRecursion (λ j. key_cmp e.0 j ≡ Less) ks = subst (λ (x : Key). AllByRecursion (λ j. key_cmp x j ≡ Less) ks) is r.0 in
        let found : find key_cmp k (e ∷ es) ≡ Some e.1 = rw f refl in
        ap (λ o. entry_of k o ++ entries_at ks (e ∷ es)) found
        ∙ ap (λ (x : Key). (x, e.1) ∷ entries_at ks (e ∷ es)) is
        ∙ ap (λ fs. e ∷ fs) (passed ks e es high ∙ next (all_among_rest k (keys_of es) ks low c.1))
    go Greater f same next =
        let no : key_cmp k e.0 ≡ Less = later (either k e.0 ks c.0) in
        let no_way : Greater ≡ Less = sym f ∙ no in cc
      where
        later : (k ≡ e.0) ⊎ Contains ks e.0 → key_cmp k e.0 ≡ Less
        later (inl is) = let g : Greater ≡ Equal = sym f ∙ ap (key_cmp k) (sym is) ∙ tied_itself keys_total k in cc
        later (inr d) = holds_at (λ j. key_cmp k j ≡ Less) ks e.0 r.0 d

-- one key more
pub entries_at-more : {X : Type 0} (ks : List Key) (k : Key) (es : List (Key × X)) → entries_at (ks ++ k ∷ []) es ≡ entries_at ks es ++ entry_of k (find key_cmp k es)
entries_at-more [] k es = append-nil (entry_of k (find key_cmp k es))
entries_at-more (j ∷ ks) k es =
    ap (λ fs. entry_of j (find key_cmp j es) ++ fs) (entries_at-more ks k es)
    ∙ sym (append_assoc (entry_of j (find key_cmp j es)) (entries_at ks es) (entry_of k (find key_cmp k es)))
