-- Printed JSON has no LF.
use Rattle.std.proofs.Common.{◌≡◌, ℕ, suc, ◌≢◌, Bool, true, false, cond, ◌==◌, ◌||◌, List, [], ◌∷◌, ◌++◌, drop, Option, Some, None, option_and_then, refl, sym, ap, ◌∙◌, arith, inl, inr}
use Rattle.std.proofs.lemmas.Bool.{cases_Bool}
use Rattle.std.proofs.lemmas.Bool.Decides.{nat_tests}
use Rattle.std.specs.Char.{is_ascii_digit}
use Rattle.std.specs.List.{prefix_len, AllByRecursion}
use Rattle.json.specs.Json as J
use Rattle.json.specs.Json.{Json}
use Rattle.json.specs.Print.{token_text, print_from, print, ends, IsNumber}
use Rattle.json.specs.Token as T
use Rattle.json.specs.Token.{Token}
use Rattle.json.specs.Tree.{json_tokens, items_tokens, members_tokens, HasNumbers, ItemsHaveNumbers, MembersHaveNumbers}
use Rattle.json.specs.Word.{head, after_digits, after_minus, after_sign, after_whole, after_fraction, after_exponent, after_number}
use Rattle.jc_answers.specs.Refusals.{lf_count}
use Rattle.jc_lines.specs.OneLine.{HasNoLf}
use Rattle.jc_lines.proofs.NoLfLemmas.{literal, whole, same_count, json_quoted}

-- ---- numbers: what is passed has no LF

digit_apart : (x : ℕ) → is_ascii_digit x ≡ true → x ≢ 10
digit_apart x h = grind (arith, nat_tests)

digits_passed : (t : List ℕ) → lf_count (drop (prefix_len is_ascii_digit t) t) ≡ lf_count t
digits_passed [] = refl
digits_passed (x ∷ t) =
    elim (cases_Bool (is_ascii_digit x)) [
      | inl digit ↦ let one : prefix_len is_ascii_digit (x ∷ t) ≡ suc (prefix_len is_ascii_digit t) = rw digit (omega arith) in
          rw one (digits_passed t ∙ sym (same_count x t (digit_apart x digit)))
      | inr other ↦ let none : prefix_len is_ascii_digit (x ∷ t) ≡ 0 = rw other refl in rw none refl
    ]

one_passed : (t : List ℕ) → head t ≢ 10 → lf_count (drop 1 t) ≡ lf_count t
one_passed [] h = refl
one_passed (x ∷ t) h = sym (same_count x t h)

-- what is behind a part, if it is there, has as many LF
abbrev pub Passes : List ℕ → Option (List ℕ) → Type 0
Passes t behind = (rest : List ℕ) → behind ≡ Some rest → lf_count rest ≡ lf_count t

chosen : (b : Bool) (t : List ℕ) (x y : Option (List ℕ)) → (b ≡ true → Passes t x) → Passes t y → Passes t (cond b x y)
chosen true t x y h g = h refl
chosen false t x y h g = g

all_of : (t u : List ℕ) → lf_count u ≡ lf_count t → Passes t (Some u)
all_of t u h rest e = let same : u ≡ rest = cc in ap lf_count (sym same) ∙ h

further : (t u : List ℕ) (behind : Option (List ℕ)) → lf_count u ≡ lf_count t → Passes u behind → Passes t behind
further t u behind same h rest e = h rest e ∙ same

then : (t : List ℕ) (first : Option (List ℕ)) (next : List ℕ → Option (List ℕ)) → Passes t first → ((u : List ℕ) → Passes u (next u)) → Passes t (option_and_then next first)
then t None next h g rest e = cc
then t (Some u) next h g rest e = g u rest e ∙ h u refl

one_or_none : (b : Bool) (t : List ℕ) → (b ≡ true → head t ≢ 10) → lf_count (cond b (drop 1 t) t) ≡ lf_count t
one_or_none true t h = one_passed t (h refl)
one_or_none false t h = refl

digits_behind : (t : List ℕ) → Passes t (after_digits t)
digits_behind t =
    chosen (prefix_len is_ascii_digit t == 0) t None _ (λ e rest no. cc) (all_of t (drop (prefix_len is_ascii_digit t) t) (digits_passed t))

whole_behind : (t : List ℕ) → Passes t (after_whole t)
whole_behind t = chosen (head t == 48) t _ _ (λ e. all_of t (drop 1 t) (one_passed t (grind (arith, nat_tests, e)))) (digits_behind t)

fraction_behind : (t : List ℕ) → Passes t (after_fraction t)
fraction_behind t =
    chosen (head t == 46) t _ _
    (λ e. further t (drop 1 t) (after_digits (drop 1 t)) (one_passed t (grind (arith, nat_tests, e))) (digits_behind (drop 1 t))) (all_of t t refl)

exponent_behind : (t : List ℕ) → Passes t (after_exponent t)
exponent_behind t =
    chosen ((head t == 101) || (head t == 69)) t _ _
    (λ e. further t (drop 1 t) _ (one_passed t (grind (arith, nat_tests, e)))
    (further (drop 1 t) (after_sign (drop 1 t)) _ (one_or_none _ (drop 1 t) (λ sign. grind (arith, nat_tests, sign))) (digits_behind (after_sign (drop 1 t))))) (all_of t t refl)

pub number_line : (s : List ℕ) → IsNumber s → HasNoLf s
unfolding after_number
number_line s h =
    let minus : lf_count (after_minus s) ≡ lf_count s = one_or_none (head s == 45) s (λ e. grind (arith, nat_tests, e)) in
    let front = then (after_minus s) (after_whole (after_minus s)) after_fraction (whole_behind (after_minus s)) fraction_behind in
    let all = then (after_minus s) (option_and_then after_fraction (after_whole (after_minus s))) after_exponent front exponent_behind in
    literal s (sym (all [] h ∙ minus))

-- ---- tokens

abbrev pub AreLineTokens : List Token → Type 0
AreLineTokens ts = AllByRecursion (λ t. HasNoLf (token_text t)) ts

both : (ts us : List Token) → AreLineTokens ts → AreLineTokens us → AreLineTokens (ts ++ us)
both [] us h g = g
both (t ∷ ts) us h g = (h.0, both ts us h.1 g)

comma_line : (b : Bool) → HasNoLf (cond b (44 ∷ []) [])
comma_line true = literal (44 ∷ []) refl
comma_line false = literal [] refl

print_line : (after : Bool) (ts : List Token) → AreLineTokens ts → HasNoLf (print_from after ts)
unfolding print_from
print_line after [] h = literal [] refl
print_line after (t ∷ ts) h = whole (comma_line _) (whole h.0 (print_line (ends t) ts h.1))

-- ---- values

-- each number's text has no LF
abbrev mutual
  pub HasLineNumbers : Json → Type 0
  HasLineNumbers J.null = Unit {0}
  HasLineNumbers (J.boolean b) = Unit {0}
  HasLineNumbers (J.number s) = HasNoLf s
  HasLineNumbers (J.string s) = Unit {0}
  HasLineNumbers (J.array js) = ItemsHaveLineNumbers js
  HasLineNumbers (J.object ms) = MembersHaveLineNumbers ms

  pub ItemsHaveLineNumbers : J.Items → Type 0
  ItemsHaveLineNumbers J.no_items = Unit {0}
  ItemsHaveLineNumbers (J.item j js) = HasLineNumbers j × ItemsHaveLineNumbers js

  pub MembersHaveLineNumbers : J.Members → Type 0
  MembersHaveLineNumbers J.no_members = Unit {0}
  MembersHaveLineNumbers (J.member k j ms) = HasLineNumbers j × MembersHaveLineNumbers ms

mutual
  json_lines : (j : Json) → HasLineNumbers j → AreLineTokens (json_tokens j)
  json_lines J.null h = (literal (token_text T.null) refl, tt)
  json_lines (J.boolean true) h = (literal (token_text (T.boolean true)) refl, tt)
  json_lines (J.boolean false) h = (literal (token_text (T.boolean false)) refl, tt)
  json_lines (J.number s) h = (h, tt)
  json_lines (J.string s) h = (json_quoted s, tt)
  json_lines (J.array js) h = (literal (91 ∷ []) refl, items_lines js h)
  json_lines (J.object ms) h = (literal (123 ∷ []) refl, members_lines ms h)

  items_lines : (js : J.Items) → ItemsHaveLineNumbers js → AreLineTokens (items_tokens js)
  items_lines J.no_items h = (literal (93 ∷ []) refl, tt)
  items_lines (J.item j js) h = both (json_tokens j) (items_tokens js) (json_lines j h.0) (items_lines js h.1)

  members_lines : (ms : J.Members) → MembersHaveLineNumbers ms → AreLineTokens (members_tokens ms)
  members_lines J.no_members h = (literal (125 ∷ []) refl, tt)
  members_lines (J.member k j ms) h =
      (whole (json_quoted k) (literal (58 ∷ []) refl), both (json_tokens j) (members_tokens ms) (json_lines j h.0) (members_lines ms h.1))

pub printed_line : (j : Json) → HasLineNumbers j → HasNoLf (print (json_tokens j))
printed_line j h = print_line false (json_tokens j) (json_lines j h)

-- where they are numbers of JSON they are so
mutual
  pub line_numbers : (j : Json) → HasNumbers j → HasLineNumbers j
  line_numbers J.null h = tt
  line_numbers (J.boolean b) h = tt
  line_numbers (J.number s) h = number_line s h
  line_numbers (J.string s) h = tt
  line_numbers (J.array js) h = item_numbers js h
  line_numbers (J.object ms) h = member_numbers ms h

  item_numbers : (js : J.Items) → ItemsHaveNumbers js → ItemsHaveLineNumbers js
  item_numbers J.no_items h = tt
  item_numbers (J.item j js) h = (line_numbers j h.0, item_numbers js h.1)

  member_numbers : (ms : J.Members) → MembersHaveNumbers ms → MembersHaveLineNumbers ms
  member_numbers J.no_members h = tt
  member_numbers (J.member k j ms) h = (line_numbers j h.0, member_numbers ms h.1)
