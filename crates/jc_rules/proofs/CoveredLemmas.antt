-- About `covered` of specs/VersionVectors: which identifiers a version vector covers.
use Rattle.std.proofs.Common.{◌≡◌, ℕ, zero, suc, ◌<◌, ◌≤◌, List, [], ◌∷◌, Bool, true, false, ◌||◌, ◌⊎◌, inl, inr, max, eqb, leb, eqb-true, eq-eqb, leb-true, leb-false, refl, sym, ◌∙◌, ap, subst, arith}
use Rattle.jc_rules.specs.declared.id.Id.{Id}
use Rattle.jc_rules.specs.Order.{same_id}
use Rattle.jc_rules.specs.Ids.{AreRising, has_id, with_id, union, AreIn}
use Rattle.jc_rules.proofs.IdsLemmas.{same_id-self, same_id-true, has_id-with, has_id-union, union-rises, same_members}
use Rattle.jc_rules.specs.VersionVectors.{ids_up_to, covered, greatest_of}
use Rattle.jc_rules.proofs.BoolLemmas.{no_truth, or_cases, or_right, same_tests}

pub left_in : (a b : Bool) → a ≡ true → a || b ≡ true
left_in true b h = refl
left_in false b h = no_truth h

pub same_parts : (i j : Id) → i.counter ≡ j.counter → i.replica ≡ j.replica → i ≡ j
same_parts i j c r = λ n. record { counter = c n; replica = r n }

-- what was counted
pub in_counted : (k : Id) (p n : ℕ) → has_id k (ids_up_to p n) ≡ true → (k.replica ≡ p) × (1 ≤ k.counter) × (k.counter ≤ n)
in_counted k p zero h = no_truth h
in_counted k p (suc n) h = go (or_cases (same_id k i) (has_id k (ids_up_to p n)) (sym (has_id-with k i (ids_up_to p n)) ∙ h)) (in_counted k p n)
  where
    i : Id
    i = record { counter = suc n; replica = p }

    go : (same_id k (record { counter = suc n; replica = p }) ≡ true) ⊎ (has_id k (ids_up_to p n) ≡ true) → (has_id k (ids_up_to p n) ≡ true → (k.replica ≡ p) × (1 ≤ k.counter) × (k.counter ≤ n)) → (k.replica ≡ p) × (1 ≤ k.counter) × (k.counter ≤ suc n)
    go (inl e) ih =
        let s : k ≡ record { counter = suc n; replica = p } = same_id-true k (record { counter = suc n; replica = p }) e in
        let c : k.counter ≡ suc n = ap (λ (j : Id). j.counter) s in
        let r : k.replica ≡ p = ap (λ (j : Id). j.replica) s in
        (r, omega (arith, c), omega (arith, c))
    go (inr e) ih = let t = ih e in let u = t.1 in let v = t.2 in (t.0, u, omega arith)

pub counted_in : (k : Id) (p n : ℕ) → k.replica ≡ p → 1 ≤ k.counter → k.counter ≤ n → has_id k (ids_up_to p n) ≡ true
counted_in k p zero r l m = absurd (omega arith)
counted_in k p (suc n) r l m = has_id-with k (record { counter = suc n; replica = p }) (ids_up_to p n) ∙ go (leb k.counter n) refl (counted_in k p n r l)
  where
    go : (b : Bool) → leb k.counter n ≡ b → (k.counter ≤ n → has_id k (ids_up_to p n) ≡ true) → same_id k (record { counter = suc n; replica = p }) || has_id k (ids_up_to p n) ≡ true
    go true e ih = or_right (same_id k (record { counter = suc n; replica = p })) (has_id k (ids_up_to p n)) (ih (leb-true k.counter n e))
    go false e ih =
        let above : n < k.counter = leb-false k.counter n e in
        let s : k ≡ record { counter = suc n; replica = p } = same_parts k (record { counter = suc n; replica = p }) (omega arith) r in
        left_in (same_id k (record { counter = suc n; replica = p })) (has_id k (ids_up_to p n)) (rw s (same_id-self (record { counter = suc n; replica = p })))

-- the greatest counter of a replica
pub greatest_here : (i : Id) (is : List Id) (p : ℕ) → i.replica ≡ p → greatest_of p (i ∷ is) ≡ max i.counter (greatest_of p is)
greatest_here i is p e = rw (eq-eqb i.replica p e) refl

pub greatest_there : (i : Id) (is : List Id) (p : ℕ) → eqb i.replica p ≡ false → greatest_of p (i ∷ is) ≡ greatest_of p is
greatest_there i is p e = rw e refl

pub greatest_tail : (i : Id) (is : List Id) (p : ℕ) → greatest_of p is ≤ greatest_of p (i ∷ is)
greatest_tail i is p = go (eqb i.replica p) refl
  where
    go : (b : Bool) → eqb i.replica p ≡ b → greatest_of p is ≤ greatest_of p (i ∷ is)
    go true e = let g = greatest_here i is p (eqb-true i.replica p e) in omega arith
    go false e = let g = greatest_there i is p e in omega arith

pub member_below : (k : Id) (s : List Id) → has_id k s ≡ true → k.counter ≤ greatest_of k.replica s
member_below k [] h = no_truth h
member_below k (i ∷ s) h = go (or_cases (same_id k i) (has_id k s) h) (member_below k s)
  where
    go : (same_id k i ≡ true) ⊎ (has_id k s ≡ true) → (has_id k s ≡ true → k.counter ≤ greatest_of k.replica s) → k.counter ≤ greatest_of k.replica (i ∷ s)
    go (inl e) ih =
        let q : k ≡ i = same_id-true k i e in
        let c : k.counter ≡ i.counter = ap (λ (j : Id). j.counter) q in
        let g = greatest_here i s k.replica (ap (λ (j : Id). j.replica) (sym q)) in
        omega arith
    go (inr e) ih = let a = ih e in let b = greatest_tail i s k.replica in omega arith

pub reached : (p : ℕ) (s : List Id) → 1 ≤ greatest_of p s → has_id (record { counter = greatest_of p s; replica = p }) s ≡ true
reached p [] h = absurd (omega arith)
reached p (i ∷ s) h = go (eqb i.replica p) refl (reached p s)
  where
    at : (n : ℕ) → n ≡ greatest_of p s → 1 ≤ n → (1 ≤ greatest_of p s → has_id (record { counter = greatest_of p s; replica = p }) s ≡ true) → has_id (record { counter = n; replica = p }) (i ∷ s) ≡ true
    at n e l ih = subst (λ (m : ℕ). has_id (record { counter = m; replica = p }) (i ∷ s) ≡ true) (sym e) (or_right (same_id (record { counter = greatest_of p s; replica = p }) i) (has_id (record { counter = greatest_of p s; replica = p }) s) (ih (omega arith)))

    go : (b : Bool) → eqb i.replica p ≡ b → (1 ≤ greatest_of p s → has_id (record { counter = greatest_of p s; replica = p }) s ≡ true) → has_id (record { counter = greatest_of p (i ∷ s); replica = p }) (i ∷ s) ≡ true
    go false e ih = let g = greatest_there i s p e in at (greatest_of p (i ∷ s)) g h ih
    go true e ih = pick (leb i.counter (greatest_of p s)) refl
      where
        r : i.replica ≡ p
        r = eqb-true i.replica p e

        pick : (b : Bool) → leb i.counter (greatest_of p s) ≡ b → has_id (record { counter = greatest_of p (i ∷ s); replica = p }) (i ∷ s) ≡ true
        pick true l =
            let m : i.counter ≤ greatest_of p s = leb-true i.counter (greatest_of p s) l in
            let g = greatest_here i s p r in
            at (greatest_of p (i ∷ s)) (omega arith) h ih
        pick false l =
            let m : greatest_of p s < i.counter = leb-false i.counter (greatest_of p s) l in
            let g = greatest_here i s p r in
            let q : record { counter = greatest_of p (i ∷ s); replica = p } ≡ i = same_parts (record { counter = greatest_of p (i ∷ s); replica = p }) i (omega arith) (sym r) in
            left_in (same_id (record { counter = greatest_of p (i ∷ s); replica = p }) i) (has_id (record { counter = greatest_of p (i ∷ s); replica = p }) s) (subst (λ (j : Id). same_id j i ≡ true) (sym q) (same_id-self i))

-- what is at or below the given identifiers
pub in_filled : (k : Id) (s : List Id) → has_id k (covered s) ≡ true → (1 ≤ k.counter) × (k.counter ≤ greatest_of k.replica s)
in_filled k [] h = no_truth h
in_filled k (i ∷ s) h = go (or_cases (has_id k (ids_up_to i.replica i.counter)) (has_id k (covered s)) (sym (has_id-union k (ids_up_to i.replica i.counter) (covered s)) ∙ h)) (in_filled k s)
  where
    go : (has_id k (ids_up_to i.replica i.counter) ≡ true) ⊎ (has_id k (covered s) ≡ true) → (has_id k (covered s) ≡ true → (1 ≤ k.counter) × (k.counter ≤ greatest_of k.replica s)) → (1 ≤ k.counter) × (k.counter ≤ greatest_of k.replica (i ∷ s))
    go (inl e) ih =
        let t = in_counted k i.replica i.counter e in
        let g = greatest_here i s k.replica (sym t.0) in
        let l = t.1 in
        let m = t.2 in
        (l, omega arith)
    go (inr e) ih = let t = ih e in let l = t.0 in let m = t.1 in let b = greatest_tail i s k.replica in (l, omega arith)

pub filled_in : (k : Id) (s : List Id) → 1 ≤ k.counter → k.counter ≤ greatest_of k.replica s → has_id k (covered s) ≡ true
filled_in k [] l m = absurd (omega arith)
filled_in k (i ∷ s) l m = has_id-union k (ids_up_to i.replica i.counter) (covered s) ∙ go (eqb i.replica k.replica) refl (filled_in k s l)
  where
    go : (b : Bool) → eqb i.replica k.replica ≡ b → (k.counter ≤ greatest_of k.replica s → has_id k (covered s) ≡ true) → has_id k (ids_up_to i.replica i.counter) || has_id k (covered s) ≡ true
    go false e ih =
        let g = greatest_there i s k.replica e in
        or_right (has_id k (ids_up_to i.replica i.counter)) (has_id k (covered s)) (ih (omega arith))
    go true e ih = pick (leb k.counter i.counter) refl
      where
        r : i.replica ≡ k.replica
        r = eqb-true i.replica k.replica e

        pick : (b : Bool) → leb k.counter i.counter ≡ b → has_id k (ids_up_to i.replica i.counter) || has_id k (covered s) ≡ true
        pick true f = left_in (has_id k (ids_up_to i.replica i.counter)) (has_id k (covered s)) (counted_in k i.replica i.counter (sym r) l (leb-true k.counter i.counter f))
        pick false f =
            let n = leb-false k.counter i.counter f in
            let g = greatest_here i s k.replica r in
            or_right (has_id k (ids_up_to i.replica i.counter)) (has_id k (covered s)) (ih (omega arith))

pub filled-rises : (s : List Id) → AreRising (covered s)
filled-rises [] = tt
filled-rises (i ∷ s) = union-rises (ids_up_to i.replica i.counter) (covered s)

-- two such sets with the same greatest counters are one
pub same_filled : (s t : List Id) → ((p : ℕ) → greatest_of p s ≡ greatest_of p t) → covered s ≡ covered t
same_filled s t e = same_members (covered s) (covered t) (filled-rises s) (filled-rises t) (λ k. same_tests (has_id k (covered s)) (has_id k (covered t)) (over s t e k) (over t s (λ p. sym (e p)) k))
  where
    over : (a b : List Id) → ((p : ℕ) → greatest_of p a ≡ greatest_of p b) → (k : Id) → has_id k (covered a) ≡ true → has_id k (covered b) ≡ true
    over a b f k h =
        let u = in_filled k a h in
        let l = u.0 in
        let m = u.1 in
        let g = f k.replica in
        filled_in k b l (omega arith)

-- filling keeps the greatest counters
pub greatest_least : (p n : ℕ) (s : List Id) → ((k : Id) → has_id k s ≡ true → k.replica ≡ p → k.counter ≤ n) → greatest_of p s ≤ n
greatest_least p n s h = go (leb 1 (greatest_of p s)) refl
  where
    go : (b : Bool) → leb 1 (greatest_of p s) ≡ b → greatest_of p s ≤ n
    go true e = h (record { counter = greatest_of p s; replica = p }) (reached p s (leb-true 1 (greatest_of p s) e)) refl
    go false e = let l = leb-false 1 (greatest_of p s) e in omega arith

pub greatest_of-filled : (p : ℕ) (s : List Id) → greatest_of p (covered s) ≡ greatest_of p s
greatest_of-filled p s = let a = below in let b = above (leb 1 (greatest_of p s)) refl in omega arith
  where
    below : greatest_of p (covered s) ≤ greatest_of p s
    below = greatest_least p (greatest_of p s) (covered s) (λ k h r. let t = in_filled k s h in let m = t.1 in rw r at m)

    above : (b : Bool) → leb 1 (greatest_of p s) ≡ b → greatest_of p s ≤ greatest_of p (covered s)
    above true e = member_below (record { counter = greatest_of p s; replica = p }) (covered s) (filled_in (record { counter = greatest_of p s; replica = p }) s (leb-true 1 (greatest_of p s) e) (omega arith))
    above false e = let l = leb-false 1 (greatest_of p s) e in omega arith

-- with one identifier more
pub greatest_of-with : (p : ℕ) (i : Id) (s : List Id) → greatest_of p (with_id i s) ≡ greatest_of p (i ∷ s)
greatest_of-with p i s = let a = below in let b = above in omega arith
  where
    below : greatest_of p (with_id i s) ≤ greatest_of p (i ∷ s)
    below = greatest_least p (greatest_of p (i ∷ s)) (with_id i s) (λ k h r. subst (λ (q : ℕ). k.counter ≤ greatest_of q (i ∷ s)) r (member_below k (i ∷ s) (sym (has_id-with k i s) ∙ h)))

    above : greatest_of p (i ∷ s) ≤ greatest_of p (with_id i s)
    above = greatest_least p (greatest_of p (with_id i s)) (i ∷ s) (λ k h r. subst (λ (q : ℕ). k.counter ≤ greatest_of q (with_id i s)) r (member_below k (with_id i s) (has_id-with k i s ∙ h)))

pub filled-with : (i : Id) (s : List Id) → covered (with_id i s) ≡ union (ids_up_to i.replica i.counter) (covered s)
filled-with i s = same_filled (with_id i s) (i ∷ s) (λ p. greatest_of-with p i s)

-- each of the first is at or below the second
pub filled_subset : (s t : List Id) → ((p : ℕ) → greatest_of p s ≤ greatest_of p t) → AreIn (covered s) (covered t)
filled_subset s t h k e =
    let u = in_filled k s e in
    let l = u.0 in
    let m = u.1 in
    let g = h k.replica in
    filled_in k t l (omega arith)
