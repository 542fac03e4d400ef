-- About `Canon`: the decimal text of a number is a numeral, and its value is that number.
use Rattle.std.proofs.Common.{◌≡◌, ◌≢◌, ℕ, ◌+◌, ◌<◌, ◌^◌, List, [], ◌∷◌, ◌++◌, length, slice_index, get_or, map, true, false, ◌==◌, inl, inr, refl, sym, ap, ◌∙◌, arith, append-nil, decimal}
use Rattle.std.specs.Char.{is_ascii_digit}
use Rattle.std.specs.List.{list_all}
use Rattle.std.specs.Str.{all_ascii_digits}
use Rattle.std.proofs.lemmas.Bool.{cases_lt, ne_eqb}
use Rattle.std.proofs.lemmas.Fmt.{decimal_is_IsNumeral, decimal-digits_of, digits_decimal, digits_value-decimal, decimal-digits_value, length-decimal-le}
use Rattle.std.proofs.lemmas.Int.Digits.{first_digits_of}
use Rattle.std.proofs.lemmas.List.Sums.{AllPass-from_list_all}
use Rattle.jc_syntax.specs.Numbers.{IsDigits, IsWhole}
use Rattle.jc_parser.specs.LegalSymbols.{IsNumeric}
use Rattle.jc_grammar.specs.SymbolTests.{is_numeral, numeral_value}
use Rattle.jc_parser.proofs.ExpressionLoopsLemmas.{own_digits}

pub numeral_of : (n : ℕ) → n < 2 ^ 64 → is_numeral (decimal n) ≡ true
numeral_of n small =
    let some : (length (decimal n) == 0) ≡ false = ne_eqb (length (decimal n)) 0 (λ none. omega (arith, (decimal_is_IsNumeral n small).0.0, none)) in
    rw (some, digits_decimal own_digits n small) refl

pub value_of_numeral : (n : ℕ) → n < 2 ^ 64 → n ≡ numeral_value (decimal n)
value_of_numeral n small = sym (digits_value-decimal own_digits n small)

all_digits : (ds : List ℕ) → all_ascii_digits ds ≡ true → list_all is_ascii_digit ds ≡ true
all_digits ds h = h

digits_are : (n : ℕ) → n < 2 ^ 64 → IsDigits (decimal n)
digits_are n small = ((decimal_is_IsNumeral n small).0.0, AllPass-from_list_all is_ascii_digit (decimal n) (all_digits (decimal n) (digits_decimal own_digits n small)))

first_of_map : (ds : List ℕ) → 0 < get_or ds 0 0 → slice_index (map (λ d. 48 + d) ds) 0 ≢ 48
first_of_map [] some same = omega (arith, some)
first_of_map (d ∷ ds) some same = omega (arith, some, same)

no_nought : (n : ℕ) → 0 < n → n < 2 ^ 64 → slice_index (decimal n) 0 ≢ 48
no_nought n some small = rw (decimal-digits_of n some small) (first_of_map _ (first_digits_of 10 n (omega arith) some))

nought : decimal 0 ≡ 48 ∷ []
nought = decimal-digits_value own_digits (48 ∷ []) refl (omega arith) (λ same. refl) (omega arith)

whole_of : (n : ℕ) → n < 2 ^ 64 → IsWhole (decimal n)
whole_of n small =
    elim (cases_lt 0 n) [
      | inl some ↦ inr (digits_are n small, no_nought n some small)
      | inr none ↦ let zero_is : n ≡ 0 = omega (arith, none) in inl (ap decimal zero_is ∙ nought)
    ]

pub numeric_of : (n : ℕ) → n < 2 ^ 64 → IsNumeric (decimal n)
numeric_of n small =
    let few = length-decimal-le 20 n (omega arith) (omega (arith, small)) small in
    let parts : decimal n ≡ decimal n ++ [] = sym (append-nil (decimal n)) in (
      record {
        minus = [];
        whole = decimal n;
        fraction = [];
        exponent = [];
        parts = parts;
        is_minus = inl refl;
        is_whole = whole_of n small;
        is_fraction = inl refl;
        is_exponent = inl refl;
      },
      omega (arith, few),
    )
