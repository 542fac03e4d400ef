-- About specs/Rules: sums over the views of all seats, what holds of each view, and counts that are 1 at most.
use Rattle.std.proofs.Common.{◌≡◌, ◌≢◌, ℕ, zero, suc, ◌+◌, ◌<◌, ◌≤◌, Bool, cond, eqb, List, [], ◌∷◌, ◌++◌, set, sym, refl, ap, subst, arith, eq-eqb, ne_eqb, ⊎_elim}
use Rattle.std.specs.Prelude.{sum_by}
use Rattle.std.proofs.lemmas.List.Sums.{sum_by-cons}
use mathlib.Core.Logic.{dite}
use mathlib.Core.Option.{some, some-injective, some-ne-none}
use native.Mathlib.Decide.{ℕ_discrete}
use lib.ListN.{get_elem?}
use Rattle.atomic_table.proofs.Lists.{at_set, at_snoc}
use Rattle.jc_lock.specs.Rules.{OnceAnd}

abbrev pub one_if : Bool → ℕ
one_if b = cond b 1 0

module _ {X : Type 0} where
  pub sum_by-put : (f : X → ℕ) (l : List X) (i : ℕ) (v w : X) → get_elem? l i ≡ some v → sum_by f (set l i w) + f v ≡ sum_by f l + f w
  sum_by-put f [] i v w e = absurd (some-ne-none v (sym e))
  sum_by-put f (x ∷ xs) zero v w e = let is : f x ≡ f v = ap f (some-injective x v e) in omega (arith, sum_by-cons f x xs, sum_by-cons f w xs)
  sum_by-put f (x ∷ xs) (suc i) v w e = let r = sum_by-put f xs i v w e in omega (arith, sum_by-cons f x xs, sum_by-cons f x (set xs i w))

  pub sum_by-same : (f : X → ℕ) (l : List X) (i : ℕ) (v w : X) → get_elem? l i ≡ some v → f w ≡ f v → sum_by f (set l i w) ≡ sum_by f l
  sum_by-same f l i v w e same = let r = sum_by-put f l i v w e in omega arith

  pub part-le-sum_by : (f : X → ℕ) (l : List X) (i : ℕ) (v : X) → get_elem? l i ≡ some v → f v ≤ sum_by f l
  part-le-sum_by f [] i v e = absurd (some-ne-none v (sym e))
  part-le-sum_by f (x ∷ xs) zero v e = let is : f x ≡ f v = ap f (some-injective x v e) in omega (arith, sum_by-cons f x xs)
  part-le-sum_by f (x ∷ xs) (suc i) v e = let r = part-le-sum_by f xs i v e in omega (arith, sum_by-cons f x xs)

  pub two-le-sum_by : (f : X → ℕ) (l : List X) (i j : ℕ) (v w : X) → j ≢ i → get_elem? l i ≡ some v → get_elem? l j ≡ some w → f v + f w ≤ sum_by f l
  two-le-sum_by f [] i j v w ne a b = absurd (some-ne-none v (sym a))
  two-le-sum_by f (x ∷ xs) zero zero v w ne a b = absurd (ne refl)
  two-le-sum_by f (x ∷ xs) zero (suc j) v w ne a b = let is : f x ≡ f v = ap f (some-injective x v a) in let r = part-le-sum_by f xs j w b in omega (arith, sum_by-cons f x xs)
  two-le-sum_by f (x ∷ xs) (suc i) zero v w ne a b = let is : f x ≡ f w = ap f (some-injective x w b) in let r = part-le-sum_by f xs i v a in omega (arith, sum_by-cons f x xs)
  two-le-sum_by f (x ∷ xs) (suc i) (suc j) v w ne a b = let r = two-le-sum_by f xs i j v w (λ e. ne (ap suc e)) a b in omega (arith, sum_by-cons f x xs)

  pub at_put : (l : List X) (i : ℕ) (v w : X) → get_elem? l i ≡ some v → get_elem? (set l i w) i ≡ some w
  at_put [] i v w e = absurd (some-ne-none v (sym e))
  at_put (x ∷ xs) zero v w e = refl
  at_put (x ∷ xs) (suc i) v w e = at_put xs i v w e

  -- what holds of the new view and of the others holds of each
  pub each_set : (P : X → Type 0) (l : List X) (i : ℕ) (w : X) → P w → ((j : ℕ) (d : X) → j ≢ i → get_elem? l j ≡ some d → P d) → (j : ℕ) (d : X) → get_elem? (set l i w) j ≡ some d → P d
  each_set P l i w mine others j d e = ⊎_elim (λ (t : (j ≡ i) × (w ≡ d)). subst P t.1 mine) (λ (t : (j ≢ i) × (get_elem? l j ≡ some d)). others j d t.0 t.1) (at_set l i j w d e)

  pub each_snoc : (P : X → Type 0) (l : List X) (w : X) → P w → ((j : ℕ) (d : X) → get_elem? l j ≡ some d → P d) → (j : ℕ) (d : X) → get_elem? (l ++ w ∷ []) j ≡ some d → P d
  each_snoc P l w mine others j d e = ⊎_elim (others j d) (λ (t : w ≡ d). subst P t mine) (at_snoc l w d j e)

pub one_if-same : (m n : ℕ) → m ≡ n → one_if (eqb m n) ≡ 1
one_if-same m n e = ap one_if (eq-eqb m n e)

pub one_if-other : (m n : ℕ) → m ≢ n → one_if (eqb m n) ≡ 0
one_if-other m n e = ap one_if (ne_eqb m n e)

-- a count that is 1 at most and can't be 1
pub none_once : {P : Type 0} (n : ℕ) → OnceAnd n P → (P → ⊥) → n ≡ 0
none_once n h never = let most = h.0 in dite (ℕ_discrete n 0) (λ z. z) (λ nz. absurd (never (h.1 (omega arith))))

-- where the ticket n is drawn
pub once_drawn : (t n low T T' : ℕ) → low ≤ n → T' ≡ T + one_if (eqb n t) → OnceAnd T ((low ≤ t) × (t < n)) → OnceAnd T' ((low ≤ t) × (t < n + 1))
once_drawn t n low T T' le e h = dite (ℕ_discrete n t)
    (λ same. let o = one_if-same n t same in let none : T ≡ 0 = none_once T h (λ q. let q1 = q.1 in omega arith) in (omega arith, λ _. (omega arith, omega arith)))
    (λ other. let o = one_if-other n t other in let a = h.0 in (omega arith, λ pos. let q = h.1 (omega arith) in let q1 = q.1 in (q.0, omega arith)))

-- where the ticket `due` is done
pub once_done : (t due high T T' : ℕ) → T' + one_if (eqb due t) ≡ T → OnceAnd T ((due ≤ t) × (t < high)) → OnceAnd T' ((due + 1 ≤ t) × (t < high))
once_done t due high T T' e h = let a = h.0 in dite (ℕ_discrete due t)
    (λ same. let o = one_if-same due t same in (omega arith, λ pos. absurd (omega arith)))
    (λ other. let o = one_if-other due t other in (omega arith, λ pos. let q = h.1 (omega arith) in let q0 = q.0 in (omega arith, q.1)))

pub once_same : {P : Type 0} → (T T' : ℕ) → T' ≡ T → OnceAnd T P → OnceAnd T' P
once_same T T' e h = let a = h.0 in (omega arith, λ pos. h.1 (omega arith))
