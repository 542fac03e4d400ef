-- About Rows: the line of a row with another last digit; the lines of rows are texts.
use Rattle.std.proofs.Common.{◌≡◌, ℕ, zero, suc, ◌+◌, ◌/◌, ◌%◌, ◌^◌, ◌<◌, inl, inr, List, [], ◌∷◌, ◌++◌, length, set, codes, decimal, refl, sym, ap, subst, ◌∙◌, arith, length-append, append-nil, append_assoc}
use Rattle.std.specs.Str.{IsUtf8}
use Rattle.std.proofs.lemmas.Bool.{cases_lt}
use Rattle.std.proofs.lemmas.Fmt.{decimal_digit, decimal_step, IsAscii-decimal}
use Rattle.std.proofs.lemmas.List.{set_at}
use Rattle.std.proofs.lemmas.List.Concat.{flat_map-append}
use Rattle.std.proofs.lemmas.Str.{IsUtf8-append, IsUtf8-from_ascii}
use Rattle.std.proofs.lemmas.Str.Ascii.{IsAscii-nil, IsAscii-cons}
use Rattle.jc_rules.specs.declared.rule.Rule.{Rule}
use Rattle.jc_rules.specs.RuleNames.{rule_name}
use Rattle.jc_rules.specs.Runs.{deeper}
use Rattle.jc_rules.proofs.RunsLemmas.{deeper_more}
use Rattle.jc_dump.specs.Lines.{row_text, trace_text}

-- what is behind the depth
abbrev rest : Rule → List ℕ
rest rule = codes " " ++ rule_name rule ++ codes "\n"

row_split : (rule : Rule) (n : ℕ) → row_text (rule, n) ≡ decimal n ++ rest rule
row_split rule n = append_assoc (decimal n ++ codes " ") (rule_name rule) (codes "\n") ∙ append_assoc (decimal n) (codes " ") (rule_name rule ++ codes "\n")

-- ---- the last digit

-- the digits of a number, but none of 0
abbrev high : ℕ → List ℕ
high zero = []
high (suc n) = decimal (suc n)

high_is : (n : ℕ) → 0 < n → high n ≡ decimal n
high_is zero some = absurd (omega arith)
high_is (suc n) some = refl

decimal_last : (n : ℕ) → n < 2 ^ 64 → decimal n ≡ high (n / 10) ++ (48 + n % 10) ∷ []
decimal_last n small =
    elim (cases_lt n 10) [
      | inl low ↦
          let none : n / 10 ≡ 0 = omega arith in
          let all : n % 10 ≡ n = omega arith in
          decimal_digit n low ∙ (ap (λ d. (48 + d) ∷ []) (sym all) ∙ ap (λ q. high q ++ (48 + n % 10) ∷ []) (sym none))
      | inr two ↦ decimal_step n two small ∙ ap (λ l. l ++ (48 + n % 10) ∷ []) (sym (high_is (n / 10) (omega arith)))
    ]

row_last : (rule : Rule) (n : ℕ) → n < 2 ^ 64 → row_text (rule, n) ≡ high (n / 10) ++ (48 + n % 10) ∷ rest rule
row_last rule n small =
    row_split rule n ∙ (ap (λ l. l ++ rest rule) (decimal_last n small) ∙ append_assoc (high (n / 10)) ((48 + n % 10) ∷ []) (rest rule))

high_length : (n : ℕ) → n < 2 ^ 64 → length (high (n / 10)) + 1 ≡ length (decimal n)
high_length n small = sym (ap length (decimal_last n small) ∙ length-append (high (n / 10)) ((48 + n % 10) ∷ []))

-- the line at another depth that differs in its last digit alone
pub other_digit : (rule : Rule) (old new last : ℕ) (bytes : List ℕ) → old < 2 ^ 64 → new < 2 ^ 64 → old / 10 ≡ new / 10 → last + 1 ≡ length (decimal old) → bytes ≡ row_text (rule, old) → set bytes last (48 + new % 10) ≡ row_text (rule, new)
other_digit rule old new last bytes before after near digits is =
    let size : length (high (old / 10)) ≡ last = omega (arith, high_length old before, digits) in
    ap (λ l. set l last (48 + new % 10)) (is ∙ row_last rule old before)
    ∙ (set_at (high (old / 10)) (48 + old % 10) (rest rule) (48 + new % 10) last size
    ∙ (ap (λ q. high q ++ (48 + new % 10) ∷ rest rule) near ∙ sym (row_last rule new after)))

pub other_digits : (old new last : ℕ) → old < 2 ^ 64 → new < 2 ^ 64 → old / 10 ≡ new / 10 → last + 1 ≡ length (decimal old) → last + 1 ≡ length (decimal new)
other_digits old new last before after near digits =
    digits ∙ (sym (high_length old before) ∙ (ap (λ q. length (high q) + 1) near ∙ high_length new after))

-- ---- texts

one_utf8 : (b : ℕ) → b < 128 → IsUtf8 (b ∷ [])
one_utf8 b low = IsUtf8-from_ascii (b ∷ []) (IsAscii-cons b [] low IsAscii-nil)

pub row_utf8 : (rule : Rule) (n : ℕ) → n < 2 ^ 64 → IsUtf8 (rule_name rule) → IsUtf8 (row_text (rule, n))
row_utf8 rule n small name =
    subst IsUtf8 (sym (row_split rule n))
    (IsUtf8-append (decimal n) (rest rule) (IsUtf8-from_ascii (decimal n) (IsAscii-decimal n small))
    (IsUtf8-append (codes " ") (rule_name rule ++ codes "\n") (one_utf8 32 (omega arith))
    (IsUtf8-append (rule_name rule) (codes "\n") name (one_utf8 10 (omega arith)))))

-- ---- rows more

text_more : (xs ys : List (Rule × ℕ)) (old now new : List ℕ) → now ≡ old ++ trace_text xs → new ≡ now ++ trace_text ys → new ≡ old ++ trace_text (xs ++ ys)
text_more xs ys old now new so_far is =
    is
    ∙ ap (λ l. l ++ trace_text ys) so_far
    ∙ append_assoc old (trace_text xs) (trace_text ys)
    ∙ ap (λ l. old ++ l) (sym (flat_map-append row_text xs ys))

-- the next row of a run
pub run_more : (rule : Rule) (depth i : ℕ) (old now new : List ℕ) → now ≡ old ++ trace_text (deeper rule depth i) → new ≡ now ++ row_text (rule, depth + i) → new ≡ old ++ trace_text (deeper rule depth (i + 1))
run_more rule depth i old now new so_far is =
    let row : Rule × ℕ = (rule, depth + i) in
    text_more (deeper rule depth i) (row ∷ []) old now new so_far (is ∙ ap (λ l. now ++ l) (sym (append-nil (row_text row))))
    ∙ ap (λ rows. old ++ trace_text rows) (sym (deeper_more rule depth i))
