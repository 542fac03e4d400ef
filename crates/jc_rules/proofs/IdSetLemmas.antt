-- About src/id_set: what its calls do to a version vector, by what this covers.
use Rattle.std.proofs.Common.{◌≡◌, ℕ, zero, suc, ◌<◌, ◌≤◌, List, [], ◌∷◌, ◌++◌, Bool, true, false, max, eqb, leb, length, get_or, set, fold, eqb-true, leb-true, leb-false, le-leb, refl, sym, ◌∙◌, ap, subst, arith}
use Rattle.std.specs.Prelude.{◌↔◌}
use Rattle.std.specs.List.{list_all}
use Rattle.jc_rules.specs.declared.id.Id.{Id}
use Rattle.jc_rules.specs.Order.{same_id}
use Rattle.jc_rules.specs.Ids.{has_id, union, greatest, AreIn}
use Rattle.jc_rules.proofs.IdsLemmas.{same_id-self, same_id-true}
use Rattle.jc_rules.specs.VersionVectors.{covered, ids_up_to, greatest_of, IsVersionVector}
use Rattle.jc_rules.proofs.CoveredLemmas.{left_in, same_filled, in_filled, filled_in, filled_subset, reached, member_below, greatest_here, greatest_there}
use Rattle.jc_rules.proofs.VersionVectorsLemmas.{IsPlace, greatest_at}
use Rattle.jc_rules.proofs.BoolLemmas.{no_truth, or_right, same_tests}

-- membership
pub below_found : (i : Id) (s : List Id) → 0 < i.counter → leb i.counter (greatest_of i.replica s) ≡ has_id i (covered s)
below_found i s l = same_tests (leb i.counter (greatest_of i.replica s)) (has_id i (covered s)) (λ e. filled_in i s (omega arith) (leb-true i.counter (greatest_of i.replica s) e)) (λ e. le-leb i.counter (greatest_of i.replica s) (in_filled i s e).1)

pub none_found : (i : Id) (s : List Id) → i.counter ≤ 0 → false ≡ has_id i (covered s)
none_found i s l = same_tests false (has_id i (covered s)) no_truth (λ f. let t = (in_filled i s f).0 in absurd (omega arith))

-- greatest counters with one more in front
front : (q : ℕ) (i : Id) (s t : List Id) → greatest_of q s ≡ greatest_of q t → greatest_of q (i ∷ s) ≡ greatest_of q (i ∷ t)
front q i s t e = rw e refl

swap_front : (q : ℕ) (i j : Id) (s : List Id) → greatest_of q (i ∷ j ∷ s) ≡ greatest_of q (j ∷ i ∷ s)
swap_front q i j s = go (eqb i.replica q) refl (eqb j.replica q) refl
  where
    go : (b : Bool) → eqb i.replica q ≡ b → (c : Bool) → eqb j.replica q ≡ c → greatest_of q (i ∷ j ∷ s) ≡ greatest_of q (j ∷ i ∷ s)
    go true e true f = rw (e, f) (omega arith)
    go true e false f = rw (e, f) refl
    go false e true f = rw (e, f) refl
    go false e false f = rw (e, f) refl

-- a greater one of the same replica hides the first
hides : (q : ℕ) (i j : Id) (s : List Id) → j.replica ≡ i.replica → j.counter ≤ i.counter → greatest_of q (i ∷ s) ≡ greatest_of q (i ∷ j ∷ s)
hides q i j s r l = go (eqb i.replica q) refl
  where
    go : (b : Bool) → eqb i.replica q ≡ b → greatest_of q (i ∷ s) ≡ greatest_of q (i ∷ j ∷ s)
    go true e = let f : eqb j.replica q ≡ true = rw r e in rw (e, f) (omega arith)
    go false e = let f : eqb j.replica q ≡ false = rw r e in rw (e, f) refl

-- one that isn't greater changes nothing
greatest_of_covered : (q : ℕ) (i : Id) (s : List Id) → i.counter ≤ greatest_of i.replica s → greatest_of q (i ∷ s) ≡ greatest_of q s
greatest_of_covered q i s l = go (eqb i.replica q) refl
  where
    go : (b : Bool) → eqb i.replica q ≡ b → greatest_of q (i ∷ s) ≡ greatest_of q s
    go true e =
        let r : i.replica ≡ q = eqb-true i.replica q e in
        let m : i.counter ≤ greatest_of q s = rw r at l in
        let g = greatest_here i s q r in
        omega arith
    go false e = greatest_there i s q e

greatest-set : (q : ℕ) (i : Id) (s : List Id) (n : ℕ) (d : Id) → n < length s → (get_or s n d).replica ≡ i.replica → (get_or s n d).counter ≤ i.counter → greatest_of q (set s n i) ≡ greatest_of q (i ∷ s)
greatest-set q i [] n d l r m = absurd (omega arith)
greatest-set q i (j ∷ s) zero d l r m = hides q i j s r m
greatest-set q i (j ∷ s) (suc n) d l r m = front q j (set s n i) (i ∷ s) (greatest-set q i s n d (omega arith) r m) ∙ swap_front q j i s

greatest-push : (q : ℕ) (i : Id) (s : List Id) → greatest_of q (s ++ i ∷ []) ≡ greatest_of q (i ∷ s)
greatest-push q i [] = refl
greatest-push q i (j ∷ s) = front q j (s ++ i ∷ []) (i ∷ s) (greatest-push q i s) ∙ swap_front q j i s

-- what is seen after an insertion: at the place of the replica, where the counter was less and where it wasn't, and at the end
pub filled-set : (i : Id) (s : List Id) (n : ℕ) (d : Id) → IsPlace i.replica n s d → (get_or s n d).counter < i.counter → covered (set s n i) ≡ union (ids_up_to i.replica i.counter) (covered s)
filled-set i s n d w m = same_filled (set s n i) (i ∷ s) (λ q. greatest-set q i s n d w.within w.replica (omega arith))

pub filled-kept : (i : Id) (s : List Id) (n : ℕ) (d : Id) → IsPlace i.replica n s d → IsVersionVector s → i.counter ≤ (get_or s n d).counter → covered s ≡ union (ids_up_to i.replica i.counter) (covered s)
filled-kept i s n d w h m =
    let g = greatest_at i.replica s n d h w.within w.replica in
    same_filled s (i ∷ s) (λ q. sym (greatest_of_covered q i s (omega arith)))

pub filled-push : (i : Id) (s : List Id) → covered (s ++ i ∷ []) ≡ union (ids_up_to i.replica i.counter) (covered s)
filled-push i s = same_filled (s ++ i ∷ []) (i ∷ s) (λ q. greatest-push q i s)

-- inclusion, tested
each_below : (s t : List Id) → list_all (λ i. leb i.counter (greatest_of i.replica t)) s ≡ true → (p : ℕ) → greatest_of p s ≤ greatest_of p t
each_below [] t h p = omega arith
each_below (i ∷ s) t h p = go (leb i.counter (greatest_of i.replica t)) refl (λ g. each_below s t g p)
  where
    go : (b : Bool) → leb i.counter (greatest_of i.replica t) ≡ b → (list_all (λ i. leb i.counter (greatest_of i.replica t)) s ≡ true → greatest_of p s ≤ greatest_of p t) → greatest_of p (i ∷ s) ≤ greatest_of p t
    go false e ih = no_truth (rw e at h)
    go true e ih =
        let rest : greatest_of p s ≤ greatest_of p t = ih (rw e at h) in
        pick (eqb i.replica p) refl rest
      where
        pick : (c : Bool) → eqb i.replica p ≡ c → greatest_of p s ≤ greatest_of p t → greatest_of p (i ∷ s) ≤ greatest_of p t
        pick true f rest =
            let r : i.replica ≡ p = eqb-true i.replica p f in
            let m : i.counter ≤ greatest_of i.replica t = leb-true i.counter (greatest_of i.replica t) e in
            let n : i.counter ≤ greatest_of p t = rw r at m in
            let g = greatest_here i s p r in
            omega arith
        pick false f rest = let g = greatest_there i s p f in omega arith

all_below : (s t u : List Id) → ((i : Id) → has_id i s ≡ true → has_id i u ≡ true) → ((i : Id) → has_id i u ≡ true → i.counter ≤ greatest_of i.replica t) → list_all (λ i. leb i.counter (greatest_of i.replica t)) s ≡ true
all_below [] t u h g = refl
all_below (i ∷ s) t u h g =
    let first : leb i.counter (greatest_of i.replica t) ≡ true = le-leb i.counter (greatest_of i.replica t) (g i (h i (left_in (same_id i i) (has_id i s) (same_id-self i)))) in
    rw first (all_below s t u (λ j e. h j (or_right (same_id j i) (has_id j s) e)) g)

pub tested : (s t : List Id) → (list_all (λ i. leb i.counter (greatest_of i.replica t)) s ≡ true) ↔ AreIn (covered s) (covered t)
tested s t = (λ h. filled_subset s t (each_below s t h), up)
  where
    up : AreIn (covered s) (covered t) → list_all (λ i. leb i.counter (greatest_of i.replica t)) s ≡ true
    up h = all_below s t s (λ i e. e) (λ i e. go i e (leb 1 i.counter) refl)
      where
        go : (i : Id) → has_id i s ≡ true → (b : Bool) → leb 1 i.counter ≡ b → i.counter ≤ greatest_of i.replica t
        go i e true f = (in_filled i t (h i (filled_in i s (leb-true 1 i.counter f) (member_below i s e)))).1
        go i e false f = let z = leb-false 1 i.counter f in omega arith

pub tested_sets : (s t v w : List Id) (b : Bool) → covered s ≡ v → covered t ≡ w → b ≡ list_all (λ i. leb i.counter (greatest_of i.replica t)) s → (b ≡ true) ↔ AreIn v w
tested_sets s t v w b ev ew e =
    let both = tested s t in
    subst (λ (x : List Id). (b ≡ true) ↔ AreIn x w) ev (subst (λ (y : List Id). (b ≡ true) ↔ AreIn (covered s) y) ew ((λ h. both.0 (sym e ∙ h)), (λ h. e ∙ both.1 h)))

-- the greatest of all counters
pub member_greatest : (k : Id) (s : List Id) → has_id k s ≡ true → k.counter ≤ greatest s
member_greatest k [] h = no_truth h
member_greatest k (i ∷ s) h = go (same_id k i) refl (member_greatest k s)
  where
    go : (b : Bool) → same_id k i ≡ b → (has_id k s ≡ true → k.counter ≤ greatest s) → k.counter ≤ greatest (i ∷ s)
    go true e ih = let c : k.counter ≡ i.counter = ap (λ (j : Id). j.counter) (same_id-true k i e) in omega arith
    go false e ih = let rest = ih (rw e at h) in omega arith

greatest_bound : (n : ℕ) (s : List Id) → ((k : Id) → has_id k s ≡ true → k.counter ≤ n) → greatest s ≤ n
greatest_bound n [] h = omega arith
greatest_bound n (i ∷ s) h =
    let first = h i (left_in (same_id i i) (has_id i s) (same_id-self i)) in
    let rest = greatest_bound n s (λ k e. h k (or_right (same_id k i) (has_id k s) e)) in
    omega arith

pub greatest_of_below : (p : ℕ) (s : List Id) → greatest_of p s ≤ greatest s
greatest_of_below p s = go (leb 1 (greatest_of p s)) refl
  where
    go : (b : Bool) → leb 1 (greatest_of p s) ≡ b → greatest_of p s ≤ greatest s
    go true e = member_greatest (record { counter = greatest_of p s; replica = p }) s (reached p s (leb-true 1 (greatest_of p s) e))
    go false e = let z = leb-false 1 (greatest_of p s) e in omega arith

pub greatest-filled : (s : List Id) → greatest (covered s) ≡ greatest s
greatest-filled s = let a = below in let b = above in omega arith
  where
    below : greatest (covered s) ≤ greatest s
    below = greatest_bound (greatest s) (covered s) (λ k e. let t = in_filled k s e in let m = t.1 in let n = greatest_of_below k.replica s in omega arith)

    above : greatest s ≤ greatest (covered s)
    above = greatest_bound (greatest (covered s)) s (λ k e. go k e (leb 1 k.counter) refl)
      where
        go : (k : Id) → has_id k s ≡ true → (b : Bool) → leb 1 k.counter ≡ b → k.counter ≤ greatest (covered s)
        go k e true f = member_greatest k (covered s) (filled_in k s (leb-true 1 k.counter f) (member_below k s e))
        go k e false f = let z = leb-false 1 k.counter f in omega arith

-- as the largest from the left
greatest_folded : (n : ℕ) (s : List Id) → fold (λ m (i : Id). max m i.counter) n s ≡ max n (greatest s)
greatest_folded n [] = omega arith
greatest_folded n (i ∷ s) = greatest_folded (max n i.counter) s ∙ omega arith

pub greatest_all : (s : List Id) → fold (λ m (i : Id). max m i.counter) 0 s ≡ greatest s
greatest_all s = greatest_folded 0 s ∙ omega arith
