-- JSON numbers (RFC 8259, section 6), as `Lexemes` wants them of number tokens.
use Rattle.std.specs.Prelude.{◌≡◌, ◌≢◌, ℕ, ◌<◌, ◌⊎◌, List, [], ◌∷◌, ◌++◌, length, slice_index}
use Rattle.std.specs.List.{AllPass}
use Rattle.std.specs.Char.{is_ascii_digit}

-- one digit or more
abbrev pub IsDigits : List ℕ → Type 0
IsDigits bs = (0 < length bs) × AllPass is_ascii_digit bs

-- nothing, or `-`
abbrev pub IsMinus : List ℕ → Type 0
IsMinus bs = (bs ≡ []) ⊎ (bs ≡ 45 ∷ [])

-- `0`, or digits that begin with another
abbrev pub IsWhole : List ℕ → Type 0
IsWhole bs = (bs ≡ 48 ∷ []) ⊎ (IsDigits bs × (slice_index bs 0 ≢ 48))

-- nothing, or `.` and digits
abbrev pub IsFraction : List ℕ → Type 0
IsFraction bs = (bs ≡ []) ⊎ ((digits : List ℕ) × (bs ≡ 46 ∷ digits) × IsDigits digits)

-- nothing, `+` or `-`
abbrev pub IsSign : List ℕ → Type 0
IsSign bs = (bs ≡ []) ⊎ ((bs ≡ 43 ∷ []) ⊎ (bs ≡ 45 ∷ []))

-- nothing, or `e` or `E`, a sign and digits
abbrev pub IsExponent : List ℕ → Type 0
IsExponent bs =
    (bs ≡ [])
    ⊎ ((e : ℕ)
    × (sign : List ℕ) × (digits : List ℕ)
    × (bs ≡ e ∷ (sign ++ digits))
    × ((e ≡ 101) ⊎ (e ≡ 69))
    × IsSign sign
    × IsDigits digits)

pub record IsNumber (bs : List ℕ) : Type 0 where
  pub minus : List ℕ
  pub whole : List ℕ
  pub fraction : List ℕ
  pub exponent : List ℕ
  pub parts : bs ≡ minus ++ (whole ++ (fraction ++ exponent))
  pub is_minus : IsMinus minus
  pub is_whole : IsWhole whole
  pub is_fraction : IsFraction fraction
  pub is_exponent : IsExponent exponent
