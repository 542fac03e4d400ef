-- Of `Requests`: the words of a line, from the first one on, and what the line means.
use Rattle.std.proofs.Common.{◌≡◌, ◌≢◌, ℕ, zero, suc, ◌<◌, ◌≤◌, nat_le, nat_lt, ◌==◌, List, [], ◌∷◌, length, take, drop, filter, get_or, Bool, true, false, not, ◌&&◌, codes, None, Some, inl, inr, refl, ap, sym, subst, ◌∙◌, arith}
use Rattle.std.specs.List.{slice_split, prefix_len, position_or_len, list_all, onto_first}
use Rattle.std.specs.Str.{IsUtf8, IsAscii, bytes_eq, all_ascii_digits}
use Rattle.std.specs.Char.{is_ascii_digit}
use Rattle.std.proofs.lemmas.Bool.{and_parts, and_from, or_cases, ltb-true, leb-true}
use Rattle.std.proofs.lemmas.Bool.Decides.{nat_tests}
use Rattle.std.proofs.lemmas.List.Elements.{All-take, All-drop}
use Rattle.std.proofs.lemmas.List.Sums.{AllPass-from_list_all, list_all-from_AllPass}
use Rattle.std.proofs.lemmas.List.Splits.{slice_split-cons_yes, slice_split-cons_no}
use Rattle.std.proofs.lemmas.Slice.Eq.{bytes_eq-Decides}
use Rattle.std.proofs.lemmas.Str.{IsUtf8-from_ascii}
use Rattle.jc_session.specs.Lines.{Line}
use Rattle.jc_session.specs.Requests.{Word, is_blank_char, words, past, is_number_word, bad, meaning, meaning_of_words}
use Rattle.jc_session.specs.Views.{AreAscii}

-- ---- the first word

abbrev is_some : List ℕ → Bool
is_some w = not (length w == 0)

-- the first part is before the first blank, and the others have the words after it
abbrev ArePartsOf : List ℕ → List (List ℕ) → Type 0
ArePartsOf xs more = (slice_split is_blank_char xs ≡ take (position_or_len is_blank_char xs) xs ∷ more) × (filter is_some more ≡ words (drop (position_or_len is_blank_char xs) xs))

parted : (xs : List ℕ) → (more : List (List ℕ)) × ArePartsOf xs more
parted [] = ([], (refl, refl))
parted (b ∷ bs) = by_test (is_blank_char b) refl (parted bs)
  where
    by_test : (t : Bool) → is_blank_char b ≡ t → (more : List (List ℕ)) × ArePartsOf bs more → (more : List (List ℕ)) × ArePartsOf (b ∷ bs) more
    by_test true e p =
        let none : position_or_len is_blank_char (b ∷ bs) ≡ 0 = rw e refl in
        let split = slice_split-cons_yes is_blank_char b bs e in
        let words_are = ap (λ n. words (drop n (b ∷ bs))) none ∙ ap (filter is_some) split in
        (slice_split is_blank_char bs, (split ∙ ap (λ n. take n (b ∷ bs) ∷ slice_split is_blank_char bs) (sym none), sym words_are))
    by_test false e (more, (is, words_are)) =
        let next : position_or_len is_blank_char (b ∷ bs) ≡ suc (position_or_len is_blank_char bs) = rw e (omega arith) in
        let split = slice_split-cons_no is_blank_char b bs e in
        (more, (split ∙ ap (onto_first b) is ∙ ap (λ m. take m (b ∷ bs) ∷ more) (sym next), words_are ∙ sym (ap (λ m. words (drop m (b ∷ bs))) next)))

-- the words of what begins with no blank
from_word : (b : ℕ) (bs : List ℕ) → is_blank_char b ≡ false → words (b ∷ bs) ≡ take (position_or_len is_blank_char (b ∷ bs)) (b ∷ bs) ∷ words (drop (position_or_len is_blank_char (b ∷ bs)) (b ∷ bs))
from_word b bs e =
    let (more, (is, words_are)) = parted (b ∷ bs) in
    let n = position_or_len is_blank_char bs in
    let next : position_or_len is_blank_char (b ∷ bs) ≡ suc n = rw e (omega arith) in
    let some : is_some (take (position_or_len is_blank_char (b ∷ bs)) (b ∷ bs)) ≡ true = ap (λ m. is_some (take m (b ∷ bs))) next ∙ not_none (take n bs) in
    ap (filter is_some) is ∙ kept (take (position_or_len is_blank_char (b ∷ bs)) (b ∷ bs)) more some ∙ ap (λ ws. take (position_or_len is_blank_char (b ∷ bs)) (b ∷ bs) ∷ ws) words_are
  where
    not_none : (xs : List ℕ) → is_some (b ∷ xs) ≡ true
    not_none xs = grind (arith, nat_tests)

    kept : (w : List ℕ) (ws : List (List ℕ)) → is_some w ≡ true → filter is_some (w ∷ ws) ≡ w ∷ filter is_some ws
    kept w ws t = rw t refl

-- what the words are of a text whose rest after its first blanks is this
abbrev HasFirst : List Word → List ℕ → Type 0
HasFirst ws [] = ws ≡ []
HasFirst ws (y ∷ ys) = ws ≡ take (position_or_len is_blank_char (y ∷ ys)) (y ∷ ys) ∷ words (drop (position_or_len is_blank_char (y ∷ ys)) (y ∷ ys))

has_first : (xs : List ℕ) → HasFirst (words xs) (past is_blank_char xs)
has_first [] = refl
has_first (b ∷ bs) = by_test (is_blank_char b) refl (has_first bs)
  where
    by_test : (t : Bool) → is_blank_char b ≡ t → HasFirst (words bs) (past is_blank_char bs) → HasFirst (words (b ∷ bs)) (past is_blank_char (b ∷ bs))
    by_test true e h =
        let next : prefix_len is_blank_char (b ∷ bs) ≡ suc (prefix_len is_blank_char bs) = rw e (omega arith) in
        let same : words (b ∷ bs) ≡ words bs = ap (filter is_some) (slice_split-cons_yes is_blank_char b bs e) in
        subst (λ (n : ℕ). HasFirst (words (b ∷ bs)) (drop n (b ∷ bs))) (sym next) (subst (λ (ws : List Word). HasFirst ws (past is_blank_char bs)) (sym same) h)
    by_test false e h =
        let none : prefix_len is_blank_char (b ∷ bs) ≡ 0 = rw e refl in
        subst (λ (n : ℕ). HasFirst (words (b ∷ bs)) (drop n (b ∷ bs))) (sym none) (from_word b bs e)

pub no_words : (xs ys : List ℕ) → ys ≡ past is_blank_char xs → ys ≡ [] → words xs ≡ []
no_words xs ys e n = subst (HasFirst (words xs)) (sym e ∙ n) (has_first xs)

first_of_words : (xs ys : List ℕ) → ys ≡ past is_blank_char xs → ys ≢ [] → words xs ≡ take (position_or_len is_blank_char ys) ys ∷ words (drop (position_or_len is_blank_char ys) ys)
first_of_words xs [] e some = absurd (some refl)
first_of_words xs (y ∷ ys) e some = subst (HasFirst (words xs)) (sym e) (has_first xs)

-- ---- bytes below 128

ascii_take : (n : ℕ) (xs : List ℕ) → AreAscii xs → AreAscii (take n xs)
ascii_take n xs h = list_all-from_AllPass (λ b. nat_lt b 128) (take n xs) (All-take (λ b. nat_lt b 128 ≡ true) n xs (AllPass-from_list_all (λ b. nat_lt b 128) xs h))

pub ascii_drop : (n : ℕ) (xs : List ℕ) → AreAscii xs → AreAscii (drop n xs)
ascii_drop n xs h = list_all-from_AllPass (λ b. nat_lt b 128) (drop n xs) (All-drop (λ b. nat_lt b 128 ≡ true) n xs (AllPass-from_list_all (λ b. nat_lt b 128) xs h))

is_ascii : (bs : List ℕ) → AreAscii bs → IsAscii bs
is_ascii [] h i = omega arith
is_ascii (b ∷ bs) h zero = ltb-true b 128 (and_parts (nat_lt b 128) (list_all (λ c. nat_lt c 128) bs) h).0
is_ascii (b ∷ bs) h (suc i) = is_ascii bs (and_parts (nat_lt b 128) (list_all (λ c. nat_lt c 128) bs) h).1 i

pub ascii_utf8 : (bs : List ℕ) → AreAscii bs → IsUtf8 bs
ascii_utf8 bs h = IsUtf8-from_ascii bs (is_ascii bs h)

-- ---- numbers

pub digits_ascii : (bs : List ℕ) → all_ascii_digits bs ≡ true → AreAscii bs
digits_ascii [] h = refl
digits_ascii (b ∷ bs) h =
    let parts = and_parts (is_ascii_digit b) (all_ascii_digits bs) h in
    and_from (nat_lt b 128) (list_all (λ c. nat_lt c 128) bs) (small b parts.0) (digits_ascii bs parts.1)
  where
    small : (d : ℕ) → is_ascii_digit d ≡ true → nat_lt d 128 ≡ true
    small d t = grind (arith, nat_tests)

-- what a number is written with
pub record IsNumeral (w : Word) : Type 0 where
  pub digits : all_ascii_digits w ≡ true
  pub some : 0 < length w
  pub few : length w ≤ 10

pub number_parts : (w : Word) → is_number_word w ≡ true → IsNumeral w
number_parts w h =
    elim (or_cases (bytes_eq w (codes "0")) ((nat_le 1 (length w) && nat_le (length w) 10) && (all_ascii_digits w && not (get_or w 0 0 == 48))) h) [
      | inl same ↦ subst IsNumeral (sym ((bytes_eq-Decides w (codes "0")).0 same)) (record { digits = refl; some = omega arith; few = omega arith })
      | inr other ↦
          let parts = and_parts (nat_le 1 (length w) && nat_le (length w) 10) (all_ascii_digits w && not (get_or w 0 0 == 48)) other in
          let sizes = and_parts (nat_le 1 (length w)) (nat_le (length w) 10) parts.0 in
          record {
            digits = (and_parts (all_ascii_digits w) (not (get_or w 0 0 == 48)) parts.1).0;
            some = leb-true 1 (length w) sizes.0;
            few = leb-true (length w) 10 sizes.1;
          }
    ]

-- ---- what is parted

pub none_left : (ys : List ℕ) (t : Bool) → t ≡ (length ys == 0) → t ≡ true → ys ≡ []
none_left [] t e h = refl
none_left (y ∷ ys) t e h = absurd (grind (arith, nat_tests))

pub some_left_of : (ys : List ℕ) (t : Bool) → t ≡ (length ys == 0) → t ≡ false → ys ≢ []
some_left_of [] t e h = absurd (grind (arith, nat_tests))
some_left_of (y ∷ ys) t e h = λ n. let s : length (y ∷ ys) ≡ 0 = ap length n in absurd (omega (arith, s))

pub word_parts : (xs ys w rest : List ℕ) (n : ℕ) → ys ≡ past is_blank_char xs → ys ≢ [] → n ≡ position_or_len is_blank_char ys → w ≡ take n ys → rest ≡ drop n ys
    → (words xs ≡ w ∷ words rest) × (rest ≡ past (λ b. not (is_blank_char b)) (past is_blank_char xs))
word_parts xs ys w rest n e some at front back =
    let first : take (position_or_len is_blank_char ys) ys ≡ w = sym (front ∙ ap (λ m. take m ys) at) in
    let behind : rest ≡ drop (position_or_len is_blank_char ys) ys = back ∙ ap (λ m. drop m ys) at in
    (first_of_words xs ys e some ∙ (λ i. first i ∷ words (sym behind i)), behind ∙ ap (past (λ b. not (is_blank_char b))) e)

pub word_ascii : (xs ys w rest : List ℕ) (n : ℕ) → ys ≡ past is_blank_char xs → w ≡ take n ys → rest ≡ drop n ys → AreAscii xs → AreAscii w × AreAscii rest
word_ascii xs ys w rest n e front back h =
    let left : AreAscii ys = subst AreAscii (sym e) (ascii_drop (prefix_len is_blank_char xs) xs h) in
    (subst AreAscii (sym front) (ascii_take n ys left), subst AreAscii (sym back) (ascii_drop n ys left))

-- ---- what a line means

pub meaning_none : (l : Line) → l ≡ None → meaning l ≡ bad
unfolding meaning
meaning_none l e = rw e refl

pub meaning_ascii : (l : Line) (text : List ℕ) → l ≡ Some text → AreAscii text → meaning l ≡ meaning_of_words text (words text)
unfolding meaning
meaning_ascii l text e h = rw (e, h) refl

pub meaning_other : (l : Line) (text : List ℕ) → l ≡ Some text → list_all (λ b. nat_lt b 128) text ≡ false → meaning l ≡ bad
unfolding meaning
meaning_other l text e h = rw (e, h) refl
