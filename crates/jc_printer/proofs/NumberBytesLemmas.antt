-- About `Numbers` of jc_syntax: the bytes of JSON numbers are those that number tokens may have.
use Rattle.std.proofs.Common.{◌≡◌, ℕ, List, [], ◌∷◌, ◌++◌, slice_index, true, ◌⊎◌, inl, inr, refl, ◌∙◌, arith}
use Rattle.std.specs.Char.{is_ascii_digit}
use Rattle.std.specs.List.{list_all}
use Rattle.std.proofs.lemmas.Bool.{and_parts, and_from}
use Rattle.std.proofs.lemmas.Bool.Decides.{nat_tests}
use Rattle.std.proofs.lemmas.List.Folds.{list_all-append}
use Rattle.std.proofs.lemmas.List.Sums.{list_all-from_AllPass}
use Rattle.jc_syntax.specs.Bytes.{is_number_start, is_number_byte}
use Rattle.jc_syntax.specs.Numbers.{IsDigits, IsMinus, IsWhole, IsFraction, IsSign, IsExponent, IsNumber}

digit_byte : (b : ℕ) → is_ascii_digit b ≡ true → is_number_byte b ≡ true
digit_byte b e = grind (arith, nat_tests)

digit_starts : (b : ℕ) → is_ascii_digit b ≡ true → is_number_start b ≡ true
digit_starts b e = grind (arith, nat_tests)

abbrev AreBytes : List ℕ → Type 0
AreBytes bs = list_all is_number_byte bs ≡ true

digits_bytes : (bs : List ℕ) → list_all is_ascii_digit bs ≡ true → AreBytes bs
digits_bytes [] all = refl
digits_bytes (b ∷ bs) all =
    let parts = and_parts (is_ascii_digit b) (list_all is_ascii_digit bs) all in
    and_from (is_number_byte b) (list_all is_number_byte bs) (digit_byte b parts.0) (digits_bytes bs parts.1)

digits_are : (bs : List ℕ) → IsDigits bs → AreBytes bs
digits_are bs is = digits_bytes bs (list_all-from_AllPass is_ascii_digit bs is.1)

both : (xs ys : List ℕ) → AreBytes xs → AreBytes ys → AreBytes (xs ++ ys)
both xs ys a b = list_all-append is_number_byte xs ys ∙ and_from (list_all is_number_byte xs) (list_all is_number_byte ys) a b

minus_are : (bs : List ℕ) → IsMinus bs → AreBytes bs
minus_are bs (inl none) = rw none refl
minus_are bs (inr minus) = rw minus refl

whole_are : (bs : List ℕ) → IsWhole bs → AreBytes bs
whole_are bs (inl nought) = rw nought refl
whole_are bs (inr digits) = digits_are bs digits.0

fraction_are : (bs : List ℕ) → IsFraction bs → AreBytes bs
fraction_are bs (inl none) = rw none refl
fraction_are bs (inr some) = rw some.1 (digits_are some.0 some.2)

sign_are : (bs : List ℕ) → IsSign bs → AreBytes bs
sign_are bs (inl none) = rw none refl
sign_are bs (inr (inl plus)) = rw plus refl
sign_are bs (inr (inr minus)) = rw minus refl

letter_is : (e : ℕ) → (e ≡ 101) ⊎ (e ≡ 69) → is_number_byte e ≡ true
letter_is e (inl small) = rw small refl
letter_is e (inr large) = rw large refl

exponent_are : (bs : List ℕ) → IsExponent bs → AreBytes bs
exponent_are bs (inl none) = rw none refl
exponent_are bs (inr some) =
    rw some.3 (and_from (is_number_byte some.0) (list_all is_number_byte (some.1 ++ some.2)) (letter_is some.0 some.4) (both some.1 some.2 (sign_are some.1 some.5) (digits_are some.2 some.6)))

pub number_bytes : (bs : List ℕ) → IsNumber bs → AreBytes bs
number_bytes bs is =
    rw is.parts (both is.minus (is.whole ++ (is.fraction ++ is.exponent)) (minus_are is.minus is.is_minus)
    (both is.whole (is.fraction ++ is.exponent) (whole_are is.whole is.is_whole)
    (both is.fraction is.exponent (fraction_are is.fraction is.is_fraction) (exponent_are is.exponent is.is_exponent))))

-- ---- the first byte

digits_begin : (bs rest : List ℕ) → IsDigits bs → is_number_start (slice_index (bs ++ rest) 0) ≡ true
digits_begin [] rest is = absurd (omega (arith, is.0))
digits_begin (b ∷ bs) rest is =
    digit_starts b (and_parts (is_ascii_digit b) (list_all is_ascii_digit bs) (list_all-from_AllPass is_ascii_digit (b ∷ bs) is.1)).0

whole_begins : (bs rest : List ℕ) → IsWhole bs → is_number_start (slice_index (bs ++ rest) 0) ≡ true
whole_begins bs rest (inl nought) = rw nought refl
whole_begins bs rest (inr digits) = digits_begin bs rest digits.0

minus_begins : (minus whole rest : List ℕ) → IsMinus minus → IsWhole whole → is_number_start (slice_index (minus ++ (whole ++ rest)) 0) ≡ true
minus_begins minus whole rest (inl none) w = rw none (whole_begins whole rest w)
minus_begins minus whole rest (inr one) w = rw one refl

pub number_begins : (bs : List ℕ) → IsNumber bs → is_number_start (slice_index bs 0) ≡ true
number_begins bs is = rw is.parts (minus_begins is.minus is.whole (is.fraction ++ is.exponent) is.is_minus is.is_whole)
