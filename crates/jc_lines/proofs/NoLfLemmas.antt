-- Texts without LF: parts and wholes, bytes, digits, strings.
use Rattle.std.proofs.Common.{◌≡◌, ℕ, zero, suc, ◌+◌, ◌-◌, ◌/◌, ◌%◌, ◌≢◌, Bool, true, false, cond, ◌==◌, ◌||◌, nat_lt, nat_le, codes, List, [], ◌∷◌, ◌++◌, length, take, filter, flat_map, refl, sym, subst, ap, ◌∙◌, arith, length-append, inl, inr}
use Rattle.std.proofs.lemmas.Bool.{cases_Bool, ne_eqb, eqb-true, eqb-false}
use Rattle.std.proofs.lemmas.Bool.Decides.{nat_tests}
use Rattle.std.proofs.Math.Seq.{take-append_seam}
use Rattle.std.proofs.lemmas.List.Elements.{filter-append}
use Rattle.std.specs.Char.{digit_char}
use Rattle.std.specs.Fmt.{decimal, digits, digits_onto, digit_glyph}
use Rattle.json.specs.Print as json
use Rattle.jc_printer.specs.Canon as canon
use Rattle.jc_answers.specs.Refusals.{is_lf, lf_count}
use Rattle.jc_lines.specs.OneLine.{HasNoLf}

-- ---- parts and wholes

pub lf_append : (a b : List ℕ) → lf_count (a ++ b) ≡ lf_count a + lf_count b
lf_append a b = ap length (filter-append is_lf a b) ∙ length-append (filter is_lf a) (filter is_lf b)

pub whole : {a b : List ℕ} → HasNoLf a → HasNoLf b → HasNoLf (a ++ b)
whole {a} {b} h g = record { none = omega (arith, lf_append a b, h.none, g.none) }

pub literal : (text : List ℕ) → lf_count text ≡ 0 → HasNoLf text
literal text h = record { none = h }

pub same_count : (x : ℕ) (xs : List ℕ) → x ≢ 10 → lf_count (x ∷ xs) ≡ lf_count xs
same_count x xs h = rw (ne_eqb x 10 h) refl

pub more : {x : ℕ} {xs : List ℕ} → x ≢ 10 → HasNoLf xs → HasNoLf (x ∷ xs)
more {x} {xs} h g = record { none = same_count x xs h ∙ g.none }

-- a line without its end has no LF where the text before that end has none
pub ended : (t : List ℕ) → HasNoLf t → HasNoLf (take (length (t ++ 10 ∷ []) - 1) (t ++ 10 ∷ []))
ended t h =
    let behind : length (t ++ 10 ∷ []) - 1 ≡ length t = omega (arith, length-append t (10 ∷ [])) in
    subst HasNoLf (sym (ap (λ n. take n (t ++ 10 ∷ [])) behind ∙ take-append_seam t (10 ∷ []))) h

pub mapped : (f : ℕ → List ℕ) → ((x : ℕ) → HasNoLf (f x)) → (xs : List ℕ) → HasNoLf (flat_map f xs)
mapped f h [] = literal [] refl
mapped f h (x ∷ xs) = whole (h x) (mapped f h xs)

-- ---- digits

glyph : (upper : Bool) (d : ℕ) → digit_glyph upper d ≢ 10
glyph true d = grind (arith, nat_tests)
glyph false d = grind (arith, nat_tests)

either : (last : Bool) (a b : List ℕ) → HasNoLf a → HasNoLf b → HasNoLf (cond last a b)
either true a b h g = h
either false a b h g = g

onto : (k n : ℕ) (acc : List ℕ) → HasNoLf acc → HasNoLf (digits_onto k 10 false n acc)
onto zero n acc h = h
onto (suc k) n acc h =
    let longer : HasNoLf (digit_glyph false (n % 10) ∷ acc) = more (glyph false (n % 10)) h in
    either (n / 10 == 0) _ _ longer (onto k (n / 10) _ longer)

pub decimal_line : (n : ℕ) → HasNoLf (decimal n)
unfolding digits
decimal_line n = onto 64 n [] (literal [] refl)

-- ---- strings

char_glyph : (d : ℕ) → digit_char d ≢ 10
char_glyph d = grind (arith, nat_tests)

hex : (a b : ℕ) (front : List ℕ) → HasNoLf front → HasNoLf (front ++ digit_char a ∷ digit_char b ∷ [])
hex a b front h = whole h (more (char_glyph a) (more (char_glyph b) (literal [] refl)))

-- a byte's escape, where it isn't LF
canon_byte : (x : ℕ) → x ≢ 10 → HasNoLf (canon.escape_byte x)
canon_byte x h =
    either (x == 34) _ _ (literal (codes "\\\"") refl)
    (either (x == 92) _ _ (literal (codes "\\\\") refl)
    (either (x == 8) _ _ (literal (codes "\\b") refl)
    (either (x == 12) _ _ (literal (codes "\\f") refl)
    (either (x == 10) _ _ (literal (codes "\\n") refl)
    (either (x == 13) _ _ (literal (codes "\\r") refl)
    (either (x == 9) _ _ (literal (codes "\\t") refl)
    (either (nat_le 32 x) _ _ (more h (literal [] refl)) (hex (x / 16) (x % 16) (codes "\\u00") (literal (codes "\\u00") refl)))))))))

one_of : (first : Bool) (a b : ℕ) → a ≢ 10 → b ≢ 10 → cond first a b ≢ 10
one_of true a b h g = h
one_of false a b h g = g

letter : (x : ℕ) → x ≢ 10 → json.escape_letter x ≢ 10
letter x h =
    one_of ((x == 34) || (x == 92)) _ _ h
    (one_of (x == 8) 98 _ (λ e. cc)
    (one_of (x == 12) 102 _ (λ e. cc)
    (one_of (x == 10) 110 _ (λ e. cc)
    (one_of (x == 13) 114 _ (λ e. cc)
    (one_of (x == 9) 116 0 (λ e. cc) (λ e. cc))))))

json_byte : (x : ℕ) → x ≢ 10 → HasNoLf (json.escape_byte x)
unfolding json.escape_byte
json_byte x h =
    either (nat_lt 0 (json.escape_letter x)) _ _ (more (λ e. cc) (more (letter x h) (literal [] refl)))
    (either (nat_lt x 32) _ _ (hex (x / 16) (x % 16) (92 ∷ 117 ∷ 48 ∷ 48 ∷ []) (literal (92 ∷ 117 ∷ 48 ∷ 48 ∷ []) refl)) (more h (literal [] refl)))

-- where LF's has none, each byte's has none
each_byte : (escape : ℕ → List ℕ) → HasNoLf (escape 10) → ((x : ℕ) → x ≢ 10 → HasNoLf (escape x)) → (x : ℕ) → HasNoLf (escape x)
each_byte escape lf others x =
    elim (cases_Bool (x == 10)) [
      | inl is ↦ subst (λ b. HasNoLf (escape b)) (sym (eqb-true x 10 is)) lf
      | inr apart ↦ others x (eqb-false x 10 apart)
    ]

pub canon_quoted : (s : List ℕ) → HasNoLf (canon.quoted s)
canon_quoted s =
    whole (literal (codes "\"") refl)
    (whole (mapped canon.escape_byte (each_byte canon.escape_byte (literal (codes "\\n") refl) canon_byte) s) (literal (codes "\"") refl))

pub json_quoted : (s : List ℕ) → HasNoLf (json.quoted s)
unfolding json.escape_byte
json_quoted s =
    more {x = 34} (λ e. cc) (whole (mapped json.escape_byte (each_byte json.escape_byte (literal (codes "\\n") refl) json_byte) s) (literal (codes "\"") refl))
