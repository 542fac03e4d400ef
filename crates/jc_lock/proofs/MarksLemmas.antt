-- About specs/Numbers: the marks of `close` show whether each number is there once.
use Rattle.std.proofs.Common.{◌≡◌, ℕ, zero, suc, ◌+◌, ◌<◌, ◌≤◌, Bool, true, false, eqb, ltb, List, [], ◌∷◌, ◌++◌, length, get_or, set, take, map, sym, refl, ap, ◌∙◌, arith, lt_of_not-le, length-set, get_or-set_same, get_or-set_other, add-one}
use Rattle.std.specs.List.{IsAnyAnswer}
use Rattle.std.proofs.lemmas.Bool.{le-ltb, lt-ltb, false≢true}
use Rattle.std.proofs.lemmas.List.Sums.{sum_by-append, sum_by_push, sum_by-cons}
use mathlib.Core.Bool.{beq, not}
use mathlib.Core.Logic.{dite}
use native.Mathlib.Decide.{ℕ_discrete, dec_le}
use Rattle.jc_lock.specs.Numbers.{times, EachOnce}
use Rattle.jc_lock.proofs.RulesSumsLemmas.{one_if, one_if-same, one_if-other}

abbrev pub is_this : ℕ → ℕ → ℕ
is_this p k = one_if (eqb k p)

-- the marks say which numbers were met, and each was met once at most
pub record Marked (marks : List Bool) (met : List ℕ) : Type 0 where
  pub below : (p : ℕ) → p < length marks → times p met ≡ one_if (get_or marks p false)
  pub above : (p : ℕ) → length marks ≤ p → times p met ≡ 0

pub Marked-more : (marks : List Bool) (met : List ℕ) (n : ℕ) → n < length marks → get_or marks n false ≡ false → Marked marks met → Marked (set marks n true) (met ++ n ∷ [])
Marked-more marks met n inside free m =
    let long : length (set marks n true) ≡ length marks = length-set marks n true in record {
      below = λ p l.
          let t = sum_by_push (is_this p) met n in
          let l' : p < length marks = omega arith in
          let old = m.below p l' in
          dite (ℕ_discrete n p)
          (λ same.
          let o = one_if-same n p same in
          let was : one_if (get_or marks p false) ≡ 0 = ap (λ (z : ℕ). one_if (get_or marks z false)) (sym same) ∙ ap one_if free in
          let now : one_if (get_or (set marks n true) p false) ≡ 1 = ap (λ (z : ℕ). one_if (get_or (set marks n true) z false)) (sym same) ∙ ap one_if (get_or-set_same marks n true false inside) in
          omega arith)
          (λ other.
          let o = one_if-other n p other in
          let now : one_if (get_or (set marks n true) p false) ≡ one_if (get_or marks p false) = ap one_if (get_or-set_other marks n p true false (λ s. other (sym s))) in
          omega arith);
      above = λ p l.
          let t = sum_by_push (is_this p) met n in
          let l' : length marks ≤ p = omega arith in
          let old = m.above p l' in
          let o = one_if-other n p (λ s. omega arith) in
          omega arith;
    }

-- a number that is too great, or was met before
pub not_each : (marks : List Bool) (met : List ℕ) (n : ℕ) (rest : List ℕ) → (n < length marks → get_or marks n false ≡ true) → Marked marks met → EachOnce (length marks) (met ++ n ∷ rest) → ⊥
not_each marks met n rest bad m each =
    let a = each n in
    let t = sum_by-append (is_this n) met (n ∷ rest) in
    let c = sum_by-cons (is_this n) n rest in
    let o = one_if-same n n refl in
    dite (dec_le (length marks) n)
    (λ over. let z : one_if (ltb n (length marks)) ≡ 0 = ap one_if (le-ltb n (length marks) over) in omega arith)
    (λ under.
    let inside : n < length marks = lt_of_not-le under in
    let y : one_if (ltb n (length marks)) ≡ 1 = ap one_if (lt-ltb n (length marks) inside) in
    let was = m.below n inside in
    let full : one_if (get_or marks n false) ≡ 1 = ap one_if (bad inside) in
    omega arith)

-- all are marked where all were met, and only there
pub each_from_marks : (marks : List Bool) (met : List ℕ) → Marked marks met → ((p : ℕ) → p < length marks → get_or marks p false ≡ true) → EachOnce (length marks) met
each_from_marks marks met m all p = dite (dec_le (length marks) p)
    (λ over. m.above p over ∙ sym (ap one_if (le-ltb p (length marks) over)))
    (λ under. let inside : p < length marks = lt_of_not-le under in m.below p inside ∙ (ap one_if (all p inside) ∙ sym (ap one_if (lt-ltb p (length marks) inside))))

one_is_true : (b : Bool) → one_if b ≡ 1 → b ≡ true
one_is_true true e = refl
one_is_true false e = absurd (omega arith)

pub marks_from_each : (marks : List Bool) (met : List ℕ) → Marked marks met → EachOnce (length marks) met → (p : ℕ) → p < length marks → get_or marks p false ≡ true
marks_from_each marks met m each p inside = one_is_true (get_or marks p false) (sym (m.below p inside) ∙ (each p ∙ ap one_if (lt-ltb p (length marks) inside)))

-- no mark is missing exactly where each is set
pub none_missing : (marks : List Bool) (missing : Bool) → IsAnyAnswer (λ y b. beq y false ≡ b) marks missing → (not missing ≡ true → (p : ℕ) → p < length marks → get_or marks p false ≡ true) × (((p : ℕ) → p < length marks → get_or marks p false ≡ true) → not missing ≡ true)
none_missing marks true h = (λ e. absurd (false≢true e), λ all. absurd (false≢true (ap (λ b. beq b false) (sym (all h.0 h.1)) ∙ h.2 false)))
none_missing marks false h = (λ _ p lt. is_set (get_or marks p false) (h p false (omega arith) lt), λ _. refl)
  where
    is_set : (b : Bool) → beq b false ≡ false → b ≡ true
    is_set true e = refl
    is_set false e = absurd (false≢true (sym e))

-- the numbers up to an element, and from it on
module _ {X : Type 0} (f : X → ℕ) where
  take_suc : (xs : List X) (i : ℕ) (x : X) → i < length xs → x ≡ get_or xs i x → take (suc i) (map f xs) ≡ take i (map f xs) ++ f x ∷ []
  take_suc [] i x h e = absurd (omega arith)
  take_suc (y ∷ ys) zero x h e = ap (λ z. f z ∷ []) (sym e)
  take_suc (y ∷ ys) (suc i) x h e = ap (λ l. f y ∷ l) (take_suc ys i x (omega arith) e)

  pub take_numbers : (xs : List X) (i : ℕ) (x : X) → i < length xs → x ≡ get_or xs i x → take (i + 1) (map f xs) ≡ take i (map f xs) ++ f x ∷ []
  take_numbers xs i x h e = ap (λ (k : ℕ). take k (map f xs)) (add-one i) ∙ take_suc xs i x h e

  pub numbers_from : (xs : List X) (i : ℕ) (x : X) → i < length xs → x ≡ get_or xs i x → (rest : List ℕ) × (map f xs ≡ take i (map f xs) ++ f x ∷ rest)
  numbers_from [] i x h e = absurd (omega arith)
  numbers_from (y ∷ ys) zero x h e = (map f ys, ap (λ z. f z ∷ map f ys) (sym e))
  numbers_from (y ∷ ys) (suc i) x h e = let r = numbers_from ys i x (omega arith) e in (r.0, ap (λ l. f y ∷ l) r.1)

  pub take_all_numbers : (xs : List X) (i : ℕ) → length xs ≤ i → take i (map f xs) ≡ map f xs
  take_all_numbers [] zero h = refl
  take_all_numbers [] (suc i) h = refl
  take_all_numbers (x ∷ xs) zero h = absurd (omega arith)
  take_all_numbers (x ∷ xs) (suc i) h = ap (λ l. f x ∷ l) (take_all_numbers xs i (omega arith))
