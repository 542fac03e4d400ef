-- How a number is read from left to right: each part takes the bytes that are left, and returns those after it.
-- The code follows these words. A reader believes `Numbers`, which says what a number is.
use Rattle.std.specs.Prelude.{ℕ, List, [], ◌∷◌, drop, ◌||◌, ◌==◌, if◌then◌else◌, Option, Some, None, option_and_then}
use Rattle.std.specs.List.{prefix_len}
use Rattle.std.specs.Char.{is_ascii_digit}

abbrev pub first : List ℕ → ℕ
first [] = 0
first (b ∷ bs) = b

abbrev pub after_digits : List ℕ → Option (List ℕ)
after_digits bs = if prefix_len is_ascii_digit bs == 0 then None else Some (drop (prefix_len is_ascii_digit bs) bs)

abbrev pub after_minus : List ℕ → List ℕ
after_minus bs = if first bs == 45 then drop 1 bs else bs

abbrev pub after_whole : List ℕ → Option (List ℕ)
after_whole bs = if first bs == 48 then Some (drop 1 bs) else after_digits bs

abbrev pub after_fraction : List ℕ → Option (List ℕ)
after_fraction bs = if first bs == 46 then after_digits (drop 1 bs) else Some bs

abbrev pub after_sign : List ℕ → List ℕ
after_sign bs = if first bs == 43 || first bs == 45 then drop 1 bs else bs

abbrev pub after_exponent : List ℕ → Option (List ℕ)
after_exponent bs = if first bs == 101 || first bs == 69 then after_digits (after_sign (drop 1 bs)) else Some bs

unfoldable pub after_number : List ℕ → Option (List ℕ)
after_number bs = option_and_then after_exponent (option_and_then after_fraction (after_whole (after_minus bs)))
