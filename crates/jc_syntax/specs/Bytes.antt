-- Sets of bytes: blanks, and those of names and numbers. `Lexemes` tells tokens apart by them.
use Rattle.std.specs.Prelude.{ℕ, Bool, ◌||◌, ◌==◌}
use Rattle.std.specs.Char.{is_ascii_alphabetic, is_ascii_digit}

-- space, tab, CR, LF
abbrev pub is_blank_byte : ℕ → Bool
is_blank_byte b = b == 32 || (b == 9 || (b == 13 || b == 10))

-- a letter or `_`
abbrev pub is_name_start : ℕ → Bool
is_name_start b = is_ascii_alphabetic b || b == 95

abbrev pub is_name_byte : ℕ → Bool
is_name_byte b = is_name_start b || is_ascii_digit b

-- a digit or `-`
abbrev pub is_number_start : ℕ → Bool
is_number_start b = is_ascii_digit b || b == 45

-- a letter, a digit or one of `_ + . -`
abbrev pub is_number_byte : ℕ → Bool
is_number_byte b = is_name_byte b || (b == 43 || (b == 46 || b == 45))
