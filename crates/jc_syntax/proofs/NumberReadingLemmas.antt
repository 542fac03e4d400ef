-- About `NumberReading` and `Numbers`: what is read as a number is a JSON number, and the converse.
use Rattle.std.proofs.Common.{◌≡◌, ℕ, suc, ◌<◌, List, [], ◌∷◌, ◌++◌, length, slice_index, take, drop, Bool, true, false, ◌||◌, ◌==◌, ◌⊎◌, inl, inr, Option, Some, None, refl, sym, ap, ◌∙◌, arith, append_assoc, option_and_then, IsTrue, ◌↔◌}
use Rattle.std.specs.Char.{is_ascii_digit}
use Rattle.std.specs.List.{prefix_len, list_all}
use Rattle.std.proofs.lemmas.Bool.{cases_Bool, eqb-true, eqb-false, ne_eqb, or_cases, and_parts}
use Rattle.std.proofs.lemmas.Bool.Decides.{nat_tests}
use Rattle.std.proofs.lemmas.List.{take-append-drop, append-nil}
use Rattle.std.proofs.lemmas.List.Folds.{length-prefix_len}
use Rattle.std.proofs.lemmas.List.Sums.{AllPass-from_list_all, list_all-from_AllPass}
use Rattle.std.proofs.Math.Seq.{drop-append_seam}
use Rattle.jc_syntax.specs.NumberReading.{first, after_digits, after_minus, after_whole, after_fraction, after_sign, after_exponent, after_number}
use Rattle.jc_syntax.specs.Numbers.{IsDigits, IsMinus, IsWhole, IsFraction, IsSign, IsExponent, IsNumber}

-- ---- what is read stands there

-- bytes that begin with a byte other than 0
begins : (bs : List ℕ) (b : ℕ) → 0 < b → first bs ≡ b → bs ≡ b ∷ drop 1 bs
begins [] b some e = absurd (omega (arith, e))
begins (x ∷ xs) b some e = rw e refl

-- the front of what is left is `front`, and `rest` follows
pub record IsRead (P : List ℕ → Type 0) (bs rest : List ℕ) : Type 0 where
  pub front : List ℕ
  pub parts : bs ≡ front ++ rest
  pub is : P front

passing : (bs : List ℕ) → list_all is_ascii_digit (take (prefix_len is_ascii_digit bs) bs) ≡ true
passing [] = refl
passing (b ∷ bs) =
    elim (cases_Bool (is_ascii_digit b)) [
      | inl digit ↦
          let more : prefix_len is_ascii_digit (b ∷ bs) ≡ suc (prefix_len is_ascii_digit bs) = rw digit (omega arith) in
          rw (more, digit) (passing bs)
      | inr other ↦ let none : prefix_len is_ascii_digit (b ∷ bs) ≡ 0 = rw other refl in rw none refl
    ]

digits_read : (bs rest : List ℕ) → after_digits bs ≡ Some rest → IsRead IsDigits bs rest
digits_read bs rest e =
    elim (cases_Bool (prefix_len is_ascii_digit bs == 0)) [
      | inl none ↦ let never = rw none at e in cc never
      | inr some ↦
          let here = rw some at e in
          let left : drop (prefix_len is_ascii_digit bs) bs ≡ rest = cc here in
          let count = length-prefix_len is_ascii_digit bs in
          let not_zero = eqb-false (prefix_len is_ascii_digit bs) 0 some in
          record {
            front = take (prefix_len is_ascii_digit bs) bs;
            parts = rw (← left) (sym (take-append-drop (prefix_len is_ascii_digit bs) bs));
            is = (omega (arith, count, not_zero), AllPass-from_list_all is_ascii_digit (take (prefix_len is_ascii_digit bs) bs) (passing bs));
          }
    ]

minus_read : (bs : List ℕ) → IsRead IsMinus bs (after_minus bs)
minus_read bs =
    elim (cases_Bool (first bs == 45)) [
      | inl minus ↦ rw minus (record { front = 45 ∷ []; parts = begins bs 45 (omega arith) (eqb-true (first bs) 45 minus); is = inr refl })
      | inr other ↦ rw other (record { front = []; parts = refl; is = inl refl })
    ]

front_first : (ds rest : List ℕ) → 0 < length ds → slice_index ds 0 ≡ first (ds ++ rest)
front_first [] rest some = absurd (omega (arith, some))
front_first (d ∷ ds) rest some = refl

whole_read : (bs rest : List ℕ) → after_whole bs ≡ Some rest → IsRead IsWhole bs rest
whole_read bs rest e =
    elim (cases_Bool (first bs == 48)) [
      | inl nought ↦
          let here = rw nought at e in
          let left : drop 1 bs ≡ rest = cc here in
          record { front = 48 ∷ []; parts = begins bs 48 (omega arith) (eqb-true (first bs) 48 nought) ∙ ap (λ (l : List ℕ). 48 ∷ l) left; is = inl refl }
      | inr other ↦
          let digits = digits_read bs rest (rw other at e) in
          let not_nought = eqb-false (first bs) 48 other in
          let same : slice_index digits.front 0 ≡ first bs = front_first digits.front rest digits.is.0 ∙ ap first (sym digits.parts) in
          record { front = digits.front; parts = digits.parts; is = inr (digits.is, λ zero_first. not_nought (sym same ∙ zero_first)) }
    ]

fraction_read : (bs rest : List ℕ) → after_fraction bs ≡ Some rest → IsRead IsFraction bs rest
fraction_read bs rest e =
    elim (cases_Bool (first bs == 46)) [
      | inl dot ↦
          let digits = digits_read (drop 1 bs) rest (rw dot at e) in
          record {
            front = 46 ∷ digits.front;
            parts = begins bs 46 (omega arith) (eqb-true (first bs) 46 dot) ∙ ap (λ (l : List ℕ). 46 ∷ l) digits.parts;
            is = inr (digits.front, refl, digits.is);
          }
      | inr other ↦
          let here = rw other at e in
          let left : bs ≡ rest = cc here in
          record { front = []; parts = left; is = inl refl }
    ]

sign_read : (bs : List ℕ) → IsRead IsSign bs (after_sign bs)
sign_read bs =
    elim (cases_Bool (first bs == 43 || first bs == 45)) [
      | inl signed ↦
          elim (or_cases (first bs == 43) (first bs == 45) signed) [
            | inl plus ↦ rw signed (record { front = 43 ∷ []; parts = begins bs 43 (omega arith) (eqb-true (first bs) 43 plus); is = inr (inl refl) })
            | inr minus ↦ rw signed (record { front = 45 ∷ []; parts = begins bs 45 (omega arith) (eqb-true (first bs) 45 minus); is = inr (inr refl) })
          ]
      | inr other ↦ rw other (record { front = []; parts = refl; is = inl refl })
    ]

exponent_digits : (bs rest : List ℕ) (e : ℕ) → (e ≡ 101) ⊎ (e ≡ 69) → bs ≡ e ∷ drop 1 bs → after_digits (after_sign (drop 1 bs)) ≡ Some rest → IsRead IsExponent bs rest
exponent_digits bs rest e letter front h =
    let sign = sign_read (drop 1 bs) in
    let digits = digits_read (after_sign (drop 1 bs)) rest h in
    let parts : drop 1 bs ≡ (sign.front ++ digits.front) ++ rest = sign.parts ∙ ap (λ (l : List ℕ). sign.front ++ l) digits.parts ∙ sym (append_assoc sign.front digits.front rest) in
    record {
      front = e ∷ (sign.front ++ digits.front);
      parts = front ∙ ap (λ (l : List ℕ). e ∷ l) parts;
      is = inr (e, sign.front, digits.front, refl, letter, sign.is, digits.is);
    }

exponent_read : (bs rest : List ℕ) → after_exponent bs ≡ Some rest → IsRead IsExponent bs rest
exponent_read bs rest h =
    elim (cases_Bool (first bs == 101 || first bs == 69)) [
      | inl letter ↦
          elim (or_cases (first bs == 101) (first bs == 69) letter) [
            | inl small ↦ exponent_digits bs rest 101 (inl refl) (begins bs 101 (omega arith) (eqb-true (first bs) 101 small)) (rw letter at h)
            | inr large ↦ exponent_digits bs rest 69 (inr refl) (begins bs 69 (omega arith) (eqb-true (first bs) 69 large)) (rw letter at h)
          ]
      | inr other ↦
          let here = rw other at h in
          let left : bs ≡ rest = cc here in
          record { front = []; parts = left; is = inl refl }
    ]

some_before : (f : List ℕ → Option (List ℕ)) (o : Option (List ℕ)) (rest : List ℕ) → option_and_then f o ≡ Some rest → (r : List ℕ) × (o ≡ Some r) × (f r ≡ Some rest)
some_before f None rest e = cc e
some_before f (Some r) rest e = (r, refl, e)

pub read_is_number : (bs : List ℕ) → after_number bs ≡ Some [] → IsNumber bs
unfolding after_number
read_is_number bs h =
    let two = some_before after_exponent (option_and_then after_fraction (after_whole (after_minus bs))) [] h in
    let one = some_before after_fraction (after_whole (after_minus bs)) two.0 two.1 in
    let m = minus_read bs in
    let w = whole_read (after_minus bs) one.0 one.1 in
    let f = fraction_read one.0 two.0 one.2 in
    let e = exponent_read two.0 [] two.2 in
    let last : two.0 ≡ e.front = e.parts ∙ append-nil e.front in
    record {
      minus = m.front;
      whole = w.front;
      fraction = f.front;
      exponent = e.front;
      parts = m.parts ∙ ap (λ (l : List ℕ). m.front ++ l) (w.parts ∙ ap (λ (l : List ℕ). w.front ++ l) (f.parts ∙ ap (λ (l : List ℕ). f.front ++ l) last));
      is_minus = m.is;
      is_whole = w.is;
      is_fraction = f.is;
      is_exponent = e.is;
    }

-- ---- what stands there is read

digit_tests : (b : ℕ) → is_ascii_digit b ≡ true → ((b == 45) ≡ false) × ((b == 43) ≡ false)
digit_tests b e = (grind (arith, nat_tests), grind (arith, nat_tests))

all_digits : (ds rest : List ℕ) → list_all is_ascii_digit ds ≡ true → is_ascii_digit (first rest) ≡ false → prefix_len is_ascii_digit (ds ++ rest) ≡ length ds
all_digits [] [] all stop = refl
all_digits [] (r ∷ rs) all stop = rw stop refl
all_digits (d ∷ ds) rest all stop =
    let parts = and_parts (is_ascii_digit d) (list_all is_ascii_digit ds) all in
    let more : prefix_len is_ascii_digit (d ∷ (ds ++ rest)) ≡ suc (prefix_len is_ascii_digit (ds ++ rest)) = rw parts.0 (omega arith) in
    more ∙ ap suc (all_digits ds rest parts.1 stop)

digits_after : (ds rest : List ℕ) → IsDigits ds → is_ascii_digit (first rest) ≡ false → after_digits (ds ++ rest) ≡ Some rest
digits_after ds rest is stop =
    let count = all_digits ds rest (list_all-from_AllPass is_ascii_digit ds is.1) stop in
    let some : (length ds == 0) ≡ false = ne_eqb (length ds) 0 (λ none. omega (arith, is.0, none)) in
    rw (count, some, drop-append_seam ds rest) refl

first_digit : (ds rest : List ℕ) → IsDigits ds → is_ascii_digit (first (ds ++ rest)) ≡ true
first_digit [] rest is = absurd (omega (arith, is.0))
first_digit (d ∷ ds) rest is = (and_parts (is_ascii_digit d) (list_all is_ascii_digit ds) (list_all-from_AllPass is_ascii_digit (d ∷ ds) is.1)).0

first_whole : (w rest : List ℕ) → IsWhole w → is_ascii_digit (first (w ++ rest)) ≡ true
first_whole w rest (inl nought) = rw nought refl
first_whole w rest (inr digits) = first_digit w rest digits.0

minus_after : (m rest : List ℕ) → IsMinus m → is_ascii_digit (first rest) ≡ true → after_minus (m ++ rest) ≡ rest
minus_after m rest (inl none) digit = rw (none, (digit_tests (first rest) digit).0) refl
minus_after m rest (inr minus) digit = rw minus refl

whole_after : (w rest : List ℕ) → IsWhole w → is_ascii_digit (first rest) ≡ false → after_whole (w ++ rest) ≡ Some rest
whole_after w rest (inl nought) stop = rw nought refl
whole_after w rest (inr digits) stop =
    let same = front_first w rest digits.0.0 in
    let other : (first (w ++ rest) == 48) ≡ false = ne_eqb (first (w ++ rest)) 48 (λ nought. digits.1 (same ∙ nought)) in
    rw other (digits_after w rest digits.0 stop)

abbrev StopsDigits : ℕ → Type 0
StopsDigits b = (is_ascii_digit b ≡ false) × ((b == 46) ≡ false)

letter_stops : (e : ℕ) → (e ≡ 101) ⊎ (e ≡ 69) → StopsDigits e
letter_stops e (inl small) = rw small (refl, refl)
letter_stops e (inr large) = rw large (refl, refl)

exponent_stops : (e : List ℕ) → IsExponent e → StopsDigits (first e)
exponent_stops e (inl none) = rw none (refl, refl)
exponent_stops e (inr some) = rw some.3 (letter_stops some.0 some.4)

fraction_stops : (f e : List ℕ) → IsFraction f → IsExponent e → is_ascii_digit (first (f ++ e)) ≡ false
fraction_stops f e (inl none) exponent = rw none (exponent_stops e exponent).0
fraction_stops f e (inr some) exponent = rw some.1 refl

fraction_after : (f e : List ℕ) → IsFraction f → IsExponent e → after_fraction (f ++ e) ≡ Some e
fraction_after f e (inl none) exponent = rw (none, (exponent_stops e exponent).1) refl
fraction_after f e (inr some) exponent = rw some.1 (digits_after some.0 e some.2 (exponent_stops e exponent).0)

sign_after : (s ds : List ℕ) → IsSign s → is_ascii_digit (first ds) ≡ true → after_sign (s ++ ds) ≡ ds
sign_after s ds (inl none) digit = let tests = digit_tests (first ds) digit in rw (none, tests.1, tests.0) refl
sign_after s ds (inr (inl plus)) digit = rw plus refl
sign_after s ds (inr (inr minus)) digit = rw minus refl

letter_test : (e : ℕ) → (e ≡ 101) ⊎ (e ≡ 69) → (e == 101 || e == 69) ≡ true
letter_test e (inl small) = rw small refl
letter_test e (inr large) = rw large refl

exponent_after : (e : List ℕ) → IsExponent e → after_exponent e ≡ Some []
exponent_after e (inl none) = rw none refl
exponent_after e (inr some) =
    let digit = rw append-nil at (first_digit some.2 [] some.6) in
    let digits = rw append-nil at (digits_after some.2 [] some.6 refl) in
    rw (some.3, letter_test some.0 some.4, sign_after some.1 some.2 some.5 digit) digits

pub number_is_read : (bs : List ℕ) → IsNumber bs → after_number bs ≡ Some []
unfolding after_number
number_is_read bs is =
    let stop = fraction_stops is.fraction is.exponent is.is_fraction is.is_exponent in
    let minus = minus_after is.minus (is.whole ++ (is.fraction ++ is.exponent)) is.is_minus (first_whole is.whole (is.fraction ++ is.exponent) is.is_whole) in
    let whole = whole_after is.whole (is.fraction ++ is.exponent) is.is_whole stop in
    rw (is.parts, minus, whole) (rw (fraction_after is.fraction is.exponent is.is_fraction is.is_exponent) (exponent_after is.exponent is.is_exponent))

empty_read : (bs rest : List ℕ) (b : Bool) → Some rest ≡ after_number bs → b ≡ (length rest == 0) → b ≡ true → IsNumber bs
empty_read bs [] b read is true_b = read_is_number bs (sym read)
empty_read bs (r ∷ rs) b read is true_b = absurd (omega (arith, eqb-true (length (r ∷ rs)) 0 (sym is ∙ true_b)))

number_empty : (bs rest : List ℕ) (b : Bool) → Some rest ≡ after_number bs → b ≡ (length rest == 0) → IsNumber bs → b ≡ true
number_empty bs rest b read is number =
    let none : Some rest ≡ Some [] = read ∙ number_is_read bs number in
    let empty : rest ≡ [] = cc none in
    is ∙ rw empty refl

pub tells_some : (bs rest : List ℕ) (b : Bool) → Some rest ≡ after_number bs → b ≡ (length rest == 0) → IsTrue b ↔ IsNumber bs
tells_some bs rest b read is = (empty_read bs rest b read is, number_empty bs rest b read is)

never_number : (bs : List ℕ) → None ≡ after_number bs → IsNumber bs → false ≡ true
never_number bs read number = let never : None ≡ Some [] = read ∙ number_is_read bs number in cc never

pub tells_none : (bs : List ℕ) → None ≡ after_number bs → IsTrue false ↔ IsNumber bs
tells_none bs read = (λ never. absurd (cc never), never_number bs read)
