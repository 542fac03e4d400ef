-- About specs/Numbers: the numbers from 0 on are there, each once. Callers cite it that close a lock with
-- the passes of `open`.
use Rattle.std.proofs.Common.{◌≡◌, ℕ, zero, suc, ◌+◌, ◌<◌, ◌≤◌, sym, refl, ap, ◌∙◌, arith, lt_of_not-le}
use Rattle.std.specs.List.{range_with_len}
use Rattle.std.proofs.lemmas.Bool.{le-ltb, lt-ltb}
use Rattle.std.proofs.lemmas.List.Sums.{sum_by-cons}
use mathlib.Core.Logic.{dite}
use native.Mathlib.Decide.{ℕ_discrete, dec_le}
use Rattle.jc_lock.specs.Numbers.{times, EachOnce}
use Rattle.jc_lock.proofs.RulesSumsLemmas.{one_if, one_if-same, one_if-other}
use Rattle.jc_lock.proofs.MarksLemmas.{is_this}

times_below : (p a n : ℕ) → p < a → times p (range_with_len a n) ≡ 0
times_below p a zero h = refl
times_below p a (suc n) h =
    let rest = times_below p (a + 1) n (omega arith) in
    let other = one_if-other a p (λ e. omega arith) in
    omega (arith, sum_by-cons (is_this p) a (range_with_len (a + 1) n))

times_above : (p a n : ℕ) → a + n ≤ p → times p (range_with_len a n) ≡ 0
times_above p a zero h = refl
times_above p a (suc n) h =
    let rest = times_above p (a + 1) n (omega arith) in
    let other = one_if-other a p (λ e. omega arith) in
    omega (arith, sum_by-cons (is_this p) a (range_with_len (a + 1) n))

times_within : (p a n : ℕ) → a ≤ p → p < a + n → times p (range_with_len a n) ≡ 1
times_within p a zero low high = absurd (omega arith)
times_within p a (suc n) low high = dite (ℕ_discrete a p)
    (λ same.
    let rest = times_below p (a + 1) n (omega arith) in
    let one = one_if-same a p same in
    omega (arith, sum_by-cons (is_this p) a (range_with_len (a + 1) n)))
    (λ other.
    let rest = times_within p (a + 1) n (omega arith) (omega arith) in
    let none = one_if-other a p other in
    omega (arith, sum_by-cons (is_this p) a (range_with_len (a + 1) n)))

-- what `open` says of its passes is what `close` asks of them
pub each_once_in_order : (n : ℕ) → EachOnce n (range_with_len 0 n)
each_once_in_order n p = dite (dec_le n p)
    (λ over. times_above p 0 n (omega arith) ∙ sym (ap one_if (le-ltb p n over)))
    (λ under. let inside : p < n = lt_of_not-le under in times_within p 0 n (omega arith) (omega arith) ∙ sym (ap one_if (lt-ltb p n inside)))
