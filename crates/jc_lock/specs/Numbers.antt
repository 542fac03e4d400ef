-- Each number once: what `close` asks of the numbers of its passes.
use Rattle.std.specs.Prelude.{◌≡◌, ℕ, List, count_by, nat_eq, nat_lt, if◌then◌else◌}

abbrev pub times : ℕ → List ℕ → ℕ
times p numbers = count_by (λ k. nat_eq k p) numbers

-- the numbers below n, each once, and no others
abbrev pub EachOnce : ℕ → List ℕ → Type 0
EachOnce n numbers = (p : ℕ) → times p numbers ≡ (if nat_lt p n then 1 else 0)
