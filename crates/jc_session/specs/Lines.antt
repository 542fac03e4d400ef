-- The lines of bytes, each as its text or as too long: a session answers these.
use Rattle.std.specs.Prelude.{◌≡◌, ◌≢◌, ℕ, ◌-◌, nat_le, ◌==◌, List, [], ◌∷◌, ◌++◌, length, take, flat_map, slice_index, Option, Some, None, if◌then◌else◌}
use Rattle.std.specs.List.{AllByRecursion}
use Rattle.jc_rules.specs.declared.limits.TheConstants.{MAX_LINE}

-- what a line is judged by: its bytes, or nothing where it is too long
abbrev pub Line : Type 0
Line = Option (List ℕ)

-- the byte isn't among them
abbrev pub Lacks : ℕ → List ℕ → Type 0
Lacks b bytes = AllByRecursion (λ x. x ≢ b) bytes

-- lines, and an LF after each
abbrev pub with_line_ends : List (List ℕ) → List ℕ
with_line_ends lines = flat_map (λ x. x ++ 10 ∷ []) lines

-- The bytes are whole lines, each with its LF, and the bytes after the last LF.
pub record AreLines (bytes : List ℕ) (whole : List (List ℕ)) (last : List ℕ) : Type 0 where
  pub is : bytes ≡ with_line_ends whole ++ last
  pub no_lf : AllByRecursion (Lacks 10) whole
  pub last_no_lf : Lacks 10 last

-- without the CR that the bytes end in, if they do
abbrev pub without_cr : List ℕ → List ℕ
without_cr xs = if slice_index xs (length xs - 1) == 13 then take (length xs - 1) xs else xs

-- a line of at most MAX_LINE bytes is its text
abbrev pub is_within_limit : List ℕ → List ℕ → Line
is_within_limit raw text = if nat_le (length raw) MAX_LINE then Some text else None

-- a line that ended in an LF; one CR before that is no part of it
abbrev pub whole_line : List ℕ → Line
whole_line raw = is_within_limit raw (without_cr raw)

-- the bytes after the last LF are a line where there are any
abbrev pub last_line : List ℕ → List Line
last_line [] = []
last_line (b ∷ bs) = is_within_limit (b ∷ bs) (b ∷ bs) ∷ []
