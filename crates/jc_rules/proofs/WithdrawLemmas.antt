-- About `IdSet::withdraw`: a version vector without a replica's greatest identifier.
use Rattle.std.proofs.Common.{◌≡◌, ℕ, zero, suc, ◌<◌, ◌≤◌, List, [], ◌∷◌, Bool, true, false, not, ◌||◌, ◌&&◌, max, eqb, leb, length, get_or, set, remove, filter, eqb-true, eq-eqb, leb-true, le-leb, refl, sym, ◌∙◌, ap, subst, arith}
use Rattle.std.specs.List.{AllByRecursion}
use Rattle.std.specs.declared.cmp.Ordering.TheVariants.{Less}
use Rattle.jc_rules.specs.declared.id.Id.{Id}
use Rattle.jc_rules.specs.declared.operation.Op.{Op}
use Rattle.jc_rules.specs.Order.{id_cmp, same_id}
use Rattle.jc_rules.specs.Ids.{AreRising, has_id, with_id, union, without}
use Rattle.jc_rules.proofs.IdsLemmas.{same_id-true, has_id-without, same_members}
use Rattle.jc_rules.specs.VersionVectors.{covered, ids_up_to, greatest_of, truncated, IsVersionVector}
use Rattle.jc_rules.specs.Representation.{IsCausallyClosed, Represents}
use Rattle.jc_rules.proofs.CoveredLemmas.{in_filled, filled_in, filled-rises, filled-with, greatest_here, greatest_there, greatest_least, greatest_of-with, member_below}
use Rattle.jc_rules.proofs.VersionVectorsLemmas.{IsPlace, NoneOf, none_left, apart, other_way}
use Rattle.jc_rules.proofs.BoolLemmas.{no_truth, same_tests}

module _ (f : Id → Bool) where
  below_filter : (i : Id) (s : List Id) → AllByRecursion (λ k. id_cmp i k ≡ Less) s → AllByRecursion (λ k. id_cmp i k ≡ Less) (filter f s)
  below_filter i [] a = tt
  below_filter i (j ∷ s) a = go (f j) refl (below_filter i s a.1)
    where
      go : (b : Bool) → f j ≡ b → AllByRecursion (λ k. id_cmp i k ≡ Less) (filter f s) → AllByRecursion (λ k. id_cmp i k ≡ Less) (filter f (j ∷ s))
      go true p ih = rw p (a.0, ih)
      go false p ih = rw p ih

  pub filter-rises : (s : List Id) → AreRising s → AreRising (filter f s)
  filter-rises [] h = tt
  filter-rises (i ∷ s) h = go (f i) refl (filter-rises s h.1)
    where
      go : (b : Bool) → f i ≡ b → AreRising (filter f s) → AreRising (filter f (i ∷ s))
      go true p ih = rw p (below_filter i s h.0, ih)
      go false p ih = rw p ih

  pub in_filter : (k : Id) (s : List Id) → has_id k (filter f s) ≡ true → (has_id k s ≡ true) × (f k ≡ true)
  in_filter k [] h = no_truth h
  in_filter k (i ∷ s) h = go (f i) refl (same_id k i) refl (in_filter k s) h
    where
      go : (b : Bool) → f i ≡ b → (c : Bool) → same_id k i ≡ c → (has_id k (filter f s) ≡ true → (has_id k s ≡ true) × (f k ≡ true)) → has_id k (filter f (i ∷ s)) ≡ true → (has_id k (i ∷ s) ≡ true) × (f k ≡ true)
      go true p true q ih g = let e : k ≡ i = same_id-true k i q in (rw q refl, ap f e ∙ p)
      go true p false q ih g = let r : has_id k (filter f s) ≡ true = rw (p, q) at g in let t = ih r in (rw q t.0, t.1)
      go false p true q ih g = let r : has_id k (filter f s) ≡ true = rw p at g in let t = ih r in (rw q refl, t.1)
      go false p false q ih g = let r : has_id k (filter f s) ≡ true = rw p at g in let t = ih r in (rw q t.0, t.1)

  pub filter_in : (k : Id) (s : List Id) → has_id k s ≡ true → f k ≡ true → has_id k (filter f s) ≡ true
  filter_in k [] h e = no_truth h
  filter_in k (i ∷ s) h e = go (f i) refl (same_id k i) refl (λ g. filter_in k s g e)
    where
      go : (b : Bool) → f i ≡ b → (c : Bool) → same_id k i ≡ c → (has_id k s ≡ true → has_id k (filter f s) ≡ true) → has_id k (filter f (i ∷ s)) ≡ true
      go true p true q ih = rw (p, q) refl
      go true p false q ih = let r : has_id k s ≡ true = rw q at h in rw (p, q) (ih r)
      go false p true q ih = let s : k ≡ i = same_id-true k i q in no_truth (sym p ∙ sym (ap f s) ∙ e)
      go false p false q ih = let r : has_id k s ≡ true = rw q at h in rw p (ih r)

-- with one replica's greatest counter lowered
pub filled-lowered : (p n : ℕ) (s t : List Id) → n ≤ greatest_of p s → greatest_of p t ≡ n → ((q : ℕ) → eqb q p ≡ false → greatest_of q t ≡ greatest_of q s) → covered t ≡ truncated p n (covered s)
filled-lowered p n s t l here there = same_members (covered t) (truncated p n (covered s)) (filled-rises t) (filter-rises test (covered s) (filled-rises s)) (λ k. same_tests (has_id k (covered t)) (has_id k (truncated p n (covered s))) (down k) (up k))
  where
    test : Id → Bool
    test = λ i. not (eqb i.replica p) || leb i.counter n

    down : (k : Id) → has_id k (covered t) ≡ true → has_id k (truncated p n (covered s)) ≡ true
    down k h = go (eqb k.replica p) refl (in_filled k t h)
      where
        go : (b : Bool) → eqb k.replica p ≡ b → (1 ≤ k.counter) × (k.counter ≤ greatest_of k.replica t) → has_id k (truncated p n (covered s)) ≡ true
        go true e g =
            let r : k.replica ≡ p = eqb-true k.replica p e in
            let a = g.0 in
            let m : k.counter ≤ greatest_of p t = subst (λ (q : ℕ). k.counter ≤ greatest_of q t) r g.1 in
            let w : k.counter ≤ greatest_of k.replica s = subst (λ (q : ℕ). k.counter ≤ greatest_of q s) (sym r) (omega arith) in
            filter_in test k (covered s) (filled_in k s a w) (rw (e, le-leb k.counter n (omega arith)) refl)
        go false e g =
            let same = there k.replica e in
            let a = g.0 in
            let m = g.1 in
            filter_in test k (covered s) (filled_in k s a (omega arith)) (rw e refl)

    up : (k : Id) → has_id k (truncated p n (covered s)) ≡ true → has_id k (covered t) ≡ true
    up k h = let both = in_filter test k (covered s) h in go (eqb k.replica p) refl (in_filled k s both.0) both.1
      where
        go : (b : Bool) → eqb k.replica p ≡ b → (1 ≤ k.counter) × (k.counter ≤ greatest_of k.replica s) → not (eqb k.replica p) || leb k.counter n ≡ true → has_id k (covered t) ≡ true
        go true e g f =
            let r : k.replica ≡ p = eqb-true k.replica p e in
            let le : leb k.counter n ≡ true = rw e at f in
            let m = leb-true k.counter n le in
            let a = g.0 in
            filled_in k t a (subst (λ (q : ℕ). k.counter ≤ greatest_of q t) (sym r) (omega arith))
        go false e g f =
            let same = there k.replica e in
            let a = g.0 in
            let m = g.1 in
            filled_in k t a (omega arith)

-- the list with another counter at the place of a replica
greatest_set_there : (q : ℕ) (s : List Id) (n : ℕ) (i d : Id) → n < length s → eqb (get_or s n d).replica q ≡ false → eqb i.replica q ≡ false → greatest_of q (set s n i) ≡ greatest_of q s
greatest_set_there q [] n i d l r e = absurd (omega arith)
greatest_set_there q (j ∷ s) zero i d l r e = greatest_there i s q e ∙ sym (greatest_there j s q r)
greatest_set_there q (j ∷ s) (suc n) i d l r e = rw (greatest_set_there q s n i d (omega arith) r e) refl

greatest_set_here : (p : ℕ) (s : List Id) (n : ℕ) (i d : Id) → IsVersionVector s → n < length s → (get_or s n d).replica ≡ p → i.replica ≡ p → greatest_of p (set s n i) ≡ i.counter
greatest_set_here p [] n i d h l r e = absurd (omega arith)
greatest_set_here p (j ∷ s) zero i d h l r e =
    let rest : greatest_of p s ≡ 0 = none_left p s (subst (λ (q : ℕ). NoneOf q s) r h.0) in
    let g = greatest_here i s p e in
    omega arith
greatest_set_here p (j ∷ s) (suc n) i d h l r e = greatest_there j (set s n i) p (apart p j.replica s n d (omega arith) r h.0) ∙ greatest_set_here p s n i d h.1 (omega arith) r e

-- and without the one there
greatest_removed_here : (p : ℕ) (s : List Id) (n : ℕ) (d : Id) → IsVersionVector s → n < length s → (get_or s n d).replica ≡ p → greatest_of p (remove s n) ≡ 0
greatest_removed_here p [] n d h l r = absurd (omega arith)
greatest_removed_here p (j ∷ s) zero d h l r = none_left p s (subst (λ (q : ℕ). NoneOf q s) r h.0)
greatest_removed_here p (j ∷ s) (suc n) d h l r = greatest_there j (remove s n) p (apart p j.replica s n d (omega arith) r h.0) ∙ greatest_removed_here p s n d h.1 (omega arith) r

greatest_removed_there : (q : ℕ) (s : List Id) (n : ℕ) (d : Id) → n < length s → eqb (get_or s n d).replica q ≡ false → greatest_of q (remove s n) ≡ greatest_of q s
greatest_removed_there q [] n d l r = absurd (omega arith)
greatest_removed_there q (j ∷ s) zero d l r = sym (greatest_there j s q r)
greatest_removed_there q (j ∷ s) (suc n) d l r = rw (greatest_removed_there q s n d (omega arith) r) refl

-- one of the replica is none of another one
of_other : (q p x : ℕ) → x ≡ p → eqb q p ≡ false → eqb x q ≡ false
of_other q p x r e = subst (λ (y : ℕ). eqb y q ≡ false) (sym r) (other_way q p e)

-- what is seen afterwards
pub filled-withdrawn : (p before : ℕ) (s : List Id) (n : ℕ) (d : Id) → IsVersionVector s → IsPlace p n s d → before ≤ greatest_of p s → covered (set s n (record { counter = before; replica = p })) ≡ truncated p before (covered s)
filled-withdrawn p before s n d h w m =
    filled-lowered p before s (set s n (record { counter = before; replica = p })) m (greatest_set_here p s n (record { counter = before; replica = p }) d h w.within w.replica refl) (λ q f. greatest_set_there q s n (record { counter = before; replica = p }) d w.within (of_other q p (get_or s n d).replica w.replica f) (of_other q p p refl f))

pub filled-removed : (p before : ℕ) (s : List Id) (n : ℕ) (d : Id) → IsVersionVector s → IsPlace p n s d → before ≡ 0 → covered (remove s n) ≡ truncated p before (covered s)
filled-removed p before s n d h w z =
    filled-lowered p before s (remove s n) (omega arith) (greatest_removed_here p s n d h w.within w.replica ∙ sym z) (λ q f. greatest_removed_there q s n d w.within (of_other q p (get_or s n d).replica w.replica f))

-- without the greatest of its replica
pub stands-withdrawn : (set : List Op) (s v new : List Id) (i : Id) (before : ℕ) → Represents set s v → greatest_of i.replica v ≡ i.counter → before < i.counter → new ≡ truncated i.replica before v → IsCausallyClosed set (without s (i ∷ [])) → before ≡ greatest_of i.replica (without s (i ∷ [])) → Represents set (without s (i ∷ [])) new
stands-withdrawn set s v new i before h g l e closed last = record {
  sound = h.sound;
  closed = closed;
  is = e ∙ ap (λ (x : List Id). truncated i.replica before x) h.is ∙ sym (filled-lowered i.replica before s (without s (i ∷ [])) bound (sym last) others);
}
  where
    w : List Id
    w = without s (i ∷ [])

    less : (q : ℕ) → greatest_of q (without s (i ∷ [])) ≤ greatest_of q s
    less q = greatest_least q (greatest_of q s) (without s (i ∷ [])) (λ k f r. subst (λ (x : ℕ). k.counter ≤ greatest_of x s) r (member_below k s (first (has_id k s) (not (has_id k (i ∷ []))) (sym (has_id-without k s (i ∷ [])) ∙ f))))
      where
        first : (a b : Bool) → a && b ≡ true → a ≡ true
        first true b h = refl
        first false b h = no_truth h

    bound : before ≤ greatest_of i.replica s
    bound = let a = less i.replica in omega (arith, last)

    others : (q : ℕ) → eqb q i.replica ≡ false → greatest_of q (without s (i ∷ [])) ≡ greatest_of q s
    others q f = let a = less q in let b = more in omega arith
      where
        stays : (k : Id) → has_id k s ≡ true → k.replica ≡ q → has_id k (without s (i ∷ [])) ≡ true
        stays k x r = has_id-without k s (i ∷ []) ∙ go (same_id k i) refl
          where
            go : (b : Bool) → same_id k i ≡ b → has_id k s && not (has_id k (i ∷ [])) ≡ true
            go false p = rw (x, p) refl
            go true p =
                let same : k ≡ i = same_id-true k i p in
                no_truth (sym f ∙ eq-eqb q i.replica (sym r ∙ ap (λ (j : Id). j.replica) same))

        more : greatest_of q s ≤ greatest_of q (without s (i ∷ []))
        more = greatest_least q (greatest_of q (without s (i ∷ []))) s (λ k x r. subst (λ (y : ℕ). k.counter ≤ greatest_of y (without s (i ∷ []))) r (member_below k (without s (i ∷ [])) (stays k x r)))

-- withdrawing what was inserted gives back what was there
pub lowered-inserted : (i : Id) (s : List Id) (before : ℕ) → s ≡ covered s → before ≡ greatest_of i.replica s → before ≤ i.counter → truncated i.replica before (union (ids_up_to i.replica i.counter) s) ≡ s
lowered-inserted i s before e b l =
    let most : greatest_of i.replica (with_id i s) ≡ max i.counter (greatest_of i.replica s) = greatest_of-with i.replica i s ∙ greatest_here i s i.replica refl in
    let others : (q : ℕ) → eqb q i.replica ≡ false → greatest_of q s ≡ greatest_of q (with_id i s) = λ q n. sym (greatest_of-with q i s ∙ greatest_there i s q (other_way q i.replica n)) in
    let more : union (ids_up_to i.replica i.counter) s ≡ covered (with_id i s) = ap (λ (x : List Id). union (ids_up_to i.replica i.counter) x) e ∙ sym (filled-with i s) in
    ap (truncated i.replica before) more ∙ sym (filled-lowered i.replica before (with_id i s) s (omega (arith, most, b)) (sym b) others) ∙ sym e
