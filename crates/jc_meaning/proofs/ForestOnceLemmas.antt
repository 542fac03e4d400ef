-- About Forest and Meaning: each insert into a list occurs once in its forest.
use Rattle.std.proofs.Common.{◌≡◌, ℕ, zero, suc, ◌+◌, ◌≤◌, ◌<◌, List, [], ◌∷◌, ◌++◌, Bool, true, false, ◌||◌, ◌&&◌, Option, Some, None, refl, sym, ◌∙◌, ap, subst, arith}
use Rattle.jc_rules.specs.declared.id.Id.{Id}
use Rattle.jc_rules.specs.declared.key.Key.{Key}
use Rattle.jc_rules.specs.declared.key.Key.TheVariants as K
use Rattle.jc_rules.specs.declared.key.Tagged.{Tagged}
use Rattle.jc_rules.specs.declared.operation.Op.{Op}
use Rattle.jc_rules.specs.Order.{id_cmp, same_id, same_key}
use Rattle.jc_rules.proofs.IdsLemmas.{same_id-self, same_id-true}
use Rattle.jc_rules.proofs.BoolLemmas.{no_either, not_so}
use Rattle.jc_tree.proofs.CountedLemmas.{one_if}
use Rattle.jc_meaning.specs.Effects.{list_at}
use Rattle.jc_meaning.specs.Forest.{Forest, bare, tree, preorder, is_less, is_under, Hangs}
use Rattle.jc_meaning.specs.Meaning.{hangs_at}
use Rattle.jc_meaning.proofs.OrdersLemmas.{keys_self, ids_back, less_self, less_total, under_less}
use Rattle.jc_meaning.proofs.NextOperationLemmas.{inserted_at, Inserted, the_insert, hangs_is, not_hung, IsRoot, IsGood}
use Rattle.jc_meaning.proofs.ForestCountsLemmas.{count, count_append, count_key, counted}
use Rattle.jc_meaning.proofs.ChainLemmas.{key_in}
use Rattle.jc_meaning.proofs.MeaningForcesLemmas.{path_above}
use Rattle.jc_meaning.proofs.ForestInsertLemmas.{key_in_append, Once}
use Rattle.jc_meaning.proofs.InsertWalkLemmas.{Distinct}

-- ---- counts and membership

pub in_counted : (i : Id) (L : List Id) → key_in (K.Elem i) L ≡ true → 1 ≤ count i L
in_counted i [] h = cc
in_counted i (n ∷ ns) h = go (same_id i n) (in_counted i ns) (ap (λ b. b || key_in (K.Elem i) ns) (ids_back i n) ∙ h)
  where
    go : (b : Bool) → (key_in (K.Elem i) ns ≡ true → 1 ≤ count i ns) → (b || key_in (K.Elem i) ns) ≡ true → 1 ≤ one_if b + count i ns
    go true f x = omega arith
    go false f x = let y : 1 ≤ count i ns = f x in omega (arith, y)

pub out_counted : (i : Id) (L : List Id) → key_in (K.Elem i) L ≡ false → count i L ≡ 0
out_counted i [] h = refl
out_counted i (n ∷ ns) h = go (same_id i n) (out_counted i ns) (ap (λ b. b || key_in (K.Elem i) ns) (ids_back i n) ∙ h)
  where
    go : (b : Bool) → (key_in (K.Elem i) ns ≡ false → count i ns ≡ 0) → (b || key_in (K.Elem i) ns) ≡ false → one_if b + count i ns ≡ 0
    go true f x = cc
    go false f x = let y : count i ns ≡ 0 = f x in omega (arith, y)

none_counted : (i : Id) (L : List Id) → count i L ≤ 0 → key_in (K.Elem i) L ≡ false
none_counted i L h = not_so (key_in (K.Elem i) L) (λ e. let x : 1 ≤ count i L = in_counted i L e in omega (arith, x, h))

pub head_out : (L : List Id) → key_in K.Head L ≡ false
head_out [] = refl
head_out (n ∷ ns) = head_out ns

-- what stands once at most makes a chain without repetition
pub distinct_from : (L : List Id) (j : Key) → key_in j L ≡ false → ((i : Id) → count i L ≤ 1) → Distinct j L
distinct_from [] j h once = tt
distinct_from (n ∷ ns) j h once = (h, distinct_from ns (K.Elem n) first rest)
  where
    first : key_in (K.Elem n) ns ≡ false
    first =
        let l : 1 + count n ns ≤ 1 = subst (λ b. one_if b + count n ns ≤ 1) (same_id-self n) (once n) in
        none_counted n ns (omega (arith, l))

    rest : (i : Id) → count i ns ≤ 1
    rest i = let l : one_if (same_id i n) + count i ns ≤ 1 = once i in omega (arith, l)

pub once_from : (r : Id) (f : Forest) → count r (preorder f) ≤ 1 → Once (K.Elem r) f
once_from r bare l = tt
once_from r (tree i f x) l =
    let w : one_if (same_id r i) + (count r (preorder f) + count r (preorder x)) ≤ 1 = subst (λ n. one_if (same_id r i) + n ≤ 1) (count_append r (preorder f) (preorder x)) l in (
      λ e. let v : 1 + (count r (preorder f) + count r (preorder x)) ≤ 1 = subst (λ b. one_if b + (count r (preorder f) + count r (preorder x)) ≤ 1) (ids_back r i ∙ e) w in none_counted r (preorder f) (omega (arith, v)),
      λ e. let v : 1 + (count r (preorder f) + count r (preorder x)) ≤ 1 = subst (λ b. one_if b + (count r (preorder f) + count r (preorder x)) ≤ 1) (ids_back r i ∙ e) w in none_counted r (preorder x) (omega (arith, v)),
      λ e. let v : 1 ≤ count r (preorder f) = in_counted r (preorder f) e in none_counted r (preorder x) (omega (arith, v, w)),
      once_from r f (omega (arith, w)),
      once_from r x (omega (arith, w)),
    )

-- what hangs nowhere doesn't stand in the forest
none_hangs : (at : Key → Id → Bool) (i : Id) → ((k : Key) → at k i ≡ false) → (k : Key) (b : Option Id) (f : Forest) → Hangs at k b f → key_in (K.Elem i) (preorder f) ≡ false
none_hangs at i none k b bare h = refl
none_hangs at i none k b (tree j f x) h =
    no_either (same_id j i) (key_in (K.Elem i) (preorder f ++ preorder x)) (not_so (same_id j i) apart)
    (key_in_append (K.Elem i) (preorder f) (preorder x) ∙ no_either (key_in (K.Elem i) (preorder f)) (key_in (K.Elem i) (preorder x)) (none_hangs at i none (K.Elem j) None f h.3) (none_hangs at i none k (Some j) x h.4))
  where
    apart : same_id j i ≡ true → ⊥
    apart e =
        let there : at k i ≡ true = subst (λ q. at k q ≡ true) (same_id-true j i e) h.0 in
        let z : true ≡ false = sym there ∙ none k in
        cc

-- ---- how often an insert stands there

module _ (at : Key → Id → Bool) (i : Id) (q : Key) (only : (k : Key) → at k i ≡ same_key q k) where
  greatest : (k : Key) (b : Option Id) (j : Id) → at k j ≡ true → is_under j b ≡ true → ((l : Id) → at k l ≡ true → is_under l b ≡ true → is_less (id_cmp j l) ≡ true → ⊥) → one_if (same_id i j) + one_if (same_key q k && is_under i (Some j)) ≡ one_if (same_key q k && is_under i b)
  greatest k b j a u none = go (same_key q k) (same_id i j) (is_less (id_cmp i j)) (is_under i b) (only k) refl refl refl
    where
      go : (x y z w : Bool) → at k i ≡ x → same_id i j ≡ y → is_less (id_cmp i j) ≡ z → is_under i b ≡ w → one_if y + one_if (x && z) ≡ one_if (x && w)
      go true true true w e f g h = absurd (less_self i (subst (λ l. is_less (id_cmp i l) ≡ true) (sym (same_id-true i j f)) g))
      go true true false true e f g h = refl
      go true true false false e f g h = let v : is_under i b ≡ true = subst (λ l. is_under l b ≡ true) (sym (same_id-true i j f)) u in let z : true ≡ false = sym v ∙ h in cc
      go true false true true e f g h = refl
      go true false true false e f g h = let v : is_under i b ≡ true = under_less i j b g u in let z : true ≡ false = sym v ∙ h in cc
      go true false false true e f g h = absurd (none i e h (less_total i j g f))
      go true false false false e f g h = refl
      go false true z w e f g h = let v : at k i ≡ true = subst (λ l. at k l ≡ true) (sym (same_id-true i j f)) a in let z2 : true ≡ false = sym v ∙ e in cc
      go false false z w e f g h = refl

  pub counted_at : (f : Forest) → Hangs at K.Head None f → count i (preorder f) ≡ one_if (same_key q K.Head && true) + count_key q (preorder f)
  counted_at f h = counted at i q only greatest K.Head None f h

-- an insert stands once, all of these do, and nothing else
pub record IsWhole (S : List Op) (P : List Tagged) (f : Forest) : Type 0 where
  pub once : (i : Id) → count i (preorder f) ≤ 1
  pub all : (i : Id) → inserted_at S P i ≡ true → key_in (K.Elem i) (preorder f) ≡ true
  pub only : (i : Id) → inserted_at S P i ≡ false → key_in (K.Elem i) (preorder f) ≡ false

module _ (S : List Op) (good : IsGood S) (P : List Tagged) (list : list_at false P ≡ true) (f : Forest) (h : Hangs (hangs_at S P) K.Head None f) where
  -- by the counter: it hangs at the head, or at an insert with a smaller counter
  counts_once : (n : ℕ) (i : Id) → i.counter < n → inserted_at S P i ≡ true → count i (preorder f) ≡ 1
  counts_once zero i l e = absurd (omega (arith, l))
  counts_once (suc n) i l e = go (the_insert S P i e) (counts_once n)
    where
      last : (x : Inserted S P i) → ((j : Id) → j.counter < n → inserted_at S P j ≡ true → count j (preorder f) ≡ 1) → (q : Key) → IsRoot S x.op P q → one_if (same_key q K.Head && true) + count_key q (preorder f) ≡ 1
      last x ih K.Head r = refl
      last x ih (K.Elem j) r =
          let older : j.counter < x.op.id.counter = good.older x.op x.within j r.0 in
          let same : x.op.id.counter ≡ i.counter = ap (λ (z : Id). z.counter) x.is in
          let one : count j (preorder f) ≡ 1 = ih j (omega (arith, older, same, l)) r.1 in
          omega (arith, one)
      last x ih K.Doc r = absurd r
      last x ih (K.Name s) r = absurd r

      go : (x : Inserted S P i) → ((j : Id) → j.counter < n → inserted_at S P j ≡ true → count j (preorder f) ≡ 1) → count i (preorder f) ≡ 1
      go x ih =
          counted_at (hangs_at S P) i x.op.cursor.last (hangs_is S P i x) f h
          ∙ last x ih x.op.cursor.last (good.rooted x.op x.within P x.op.cursor.last list (path_above x.op.cursor.path P x.op.cursor.last x.op.cursor.last x.path (keys_self x.op.cursor.last)))

  pub stands_once : (i : Id) → inserted_at S P i ≡ true → count i (preorder f) ≡ 1
  stands_once i e = counts_once (suc i.counter) i (omega arith) e

  pub whole : IsWhole S P f
  whole = record { once = once; all = all; only = only }
    where
      all : (i : Id) → inserted_at S P i ≡ true → key_in (K.Elem i) (preorder f) ≡ true
      all i e = go (key_in (K.Elem i) (preorder f)) refl
        where
          go : (b : Bool) → key_in (K.Elem i) (preorder f) ≡ b → b ≡ true
          go true x = refl
          go false x = let y : count i (preorder f) ≡ 0 = out_counted i (preorder f) x in let z : count i (preorder f) ≡ 1 = stands_once i e in absurd (omega (arith, y, z))

      only : (i : Id) → inserted_at S P i ≡ false → key_in (K.Elem i) (preorder f) ≡ false
      only i e = none_hangs (hangs_at S P) i (λ k. not_hung S P k i e) K.Head None f h

      once : (i : Id) → count i (preorder f) ≤ 1
      once i = go (inserted_at S P i) refl
        where
          go : (b : Bool) → inserted_at S P i ≡ b → count i (preorder f) ≤ 1
          go true e = let z : count i (preorder f) ≡ 1 = stands_once i e in omega (arith, z)
          go false e = let z : count i (preorder f) ≡ 0 = out_counted i (preorder f) (only i e) in omega (arith, z)
