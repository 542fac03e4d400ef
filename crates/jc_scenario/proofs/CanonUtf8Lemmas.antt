-- About `Canon`: the canonical text is UTF-8.
use Rattle.std.proofs.Common.{◌≡◌, ◌≢◌, ℕ, zero, suc, ◌/◌, ◌%◌, ◌<◌, ◌≤◌, List, [], ◌∷◌, ◌++◌, length, get_or, Bool, true, nat_le, nat_lt, inl, inr, refl, sym, ap, subst, ◌∙◌, arith, append-nil}
use Rattle.std.specs.Prelude.{codes}
use Rattle.std.specs.List.{list_all}
use Rattle.std.specs.Char.{digit_char}
use Rattle.std.specs.Str.{IsUtf8, IsAscii}
use Rattle.std.proofs.lemmas.Bool.{and_parts, and_from, cases_Bool, cases_eq, cases_lt, ne_eqb, lt-ltb, ltb-true}
use Rattle.std.proofs.lemmas.Bool.Decides.{nat_tests}
use Rattle.std.proofs.lemmas.List.Concat.{flat_map-append}
use Rattle.std.proofs.lemmas.List.Sums.{list_all-from_AllPass}
use Rattle.std.proofs.lemmas.Str.{IsUtf8-append, IsUtf8-nil, IsUtf8-from_ascii, encode_ascii, inside_one, IsUtf8-encode}
use lib.Utf8.{encode, encodes, scalar, scalars}
use Rattle.jc_syntax.specs.Bytes.{is_blank_byte, is_name_byte, is_number_byte}
use Rattle.jc_grammar.specs.Symbols.{Symbol, word, number, string, dot, open_paren, close_paren, open_brace, close_brace, open_bracket, close_bracket, comma, semicolon, assign, equals}
use Rattle.jc_printer.specs.Canon.{escape_byte, escape, quoted}
use Rattle.jc_printer.proofs.NumberBytesLemmas.{number_bytes}
use Rattle.jc_printer.proofs.WrittenSymbolsLemmas.{IsWritten}
use Rattle.jc_printer.proofs.PrintedSymbolsLemmas.{IsPrinted}

-- ---- bytes below 128

abbrev AreSmall : List ℕ → Type 0
AreSmall bs = list_all (λ b. nat_lt b 128) bs ≡ true

ascii : (bs : List ℕ) → AreSmall bs → IsAscii bs
ascii [] all i = omega arith
ascii (b ∷ bs) all zero = ltb-true b 128 (and_parts (nat_lt b 128) (list_all (λ c. nat_lt c 128) bs) all).0
ascii (b ∷ bs) all (suc i) = ascii bs (and_parts (nat_lt b 128) (list_all (λ c. nat_lt c 128) bs) all).1 i

small_utf8 : (bs : List ℕ) → AreSmall bs → IsUtf8 bs
small_utf8 bs all = IsUtf8-from_ascii bs (ascii bs all)

all_small : (p : ℕ → Bool) → ((b : ℕ) → p b ≡ true → nat_lt b 128 ≡ true) → (bs : List ℕ) → list_all p bs ≡ true → AreSmall bs
all_small p small [] all = refl
all_small p small (b ∷ bs) all =
    let parts = and_parts (p b) (list_all p bs) all in
    and_from (nat_lt b 128) (list_all (λ c. nat_lt c 128) bs) (small b parts.0) (all_small p small bs parts.1)

name_small : (b : ℕ) → is_name_byte b ≡ true → nat_lt b 128 ≡ true
name_small b h = grind (arith, nat_tests)

number_small : (b : ℕ) → is_number_byte b ≡ true → nat_lt b 128 ≡ true
number_small b h = grind (arith, nat_tests)

blank_small : (b : ℕ) → is_blank_byte b ≡ true → nat_lt b 128 ≡ true
blank_small b h = grind (arith, nat_tests)

-- ---- string literals

digit_small : (d : ℕ) → d < 16 → nat_lt (digit_char d) 128 ≡ true
digit_small d h = grind (arith, nat_tests)

small_as : (b n : ℕ) → b ≡ n → AreSmall (escape_byte n) → AreSmall (escape_byte b)
small_as b n same h = subst (λ (k : ℕ). AreSmall (escape_byte k)) (sym same) h

-- a byte without a letter of its own
other_small : (b : ℕ) → b < 128 → b ≢ 34 → b ≢ 92 → b ≢ 8 → b ≢ 12 → b ≢ 10 → b ≢ 13 → b ≢ 9 → AreSmall (escape_byte b)
other_small b h quote slash back feed line carriage tab =
    let quote_no = ne_eqb b 34 quote in
    let slash_no = ne_eqb b 92 slash in
    let back_no = ne_eqb b 8 back in
    let feed_no = ne_eqb b 12 feed in
    let line_no = ne_eqb b 10 line in
    let carriage_no = ne_eqb b 13 carriage in
    let tab_no = ne_eqb b 9 tab in
    elim (cases_Bool (nat_le 32 b)) [
      | inl printable ↦ rw (quote_no, slash_no, back_no, feed_no, line_no, carriage_no, tab_no, printable, lt-ltb b 128 h) refl
      | inr control ↦ rw (quote_no, slash_no, back_no, feed_no, line_no, carriage_no, tab_no, control, digit_small (b / 16) (omega arith), digit_small (b % 16) (omega arith)) refl
    ]

escape_small : (b : ℕ) → b < 128 → AreSmall (escape_byte b)
escape_small b h =
    elim (cases_eq b 34) [
      | inl e ↦ small_as b 34 e refl
      | inr quote ↦
          elim (cases_eq b 92) [
            | inl e ↦ small_as b 92 e refl
            | inr slash ↦
                elim (cases_eq b 8) [
                  | inl e ↦ small_as b 8 e refl
                  | inr back ↦
                      elim (cases_eq b 12) [
                        | inl e ↦ small_as b 12 e refl
                        | inr feed ↦
                            elim (cases_eq b 10) [
                              | inl e ↦ small_as b 10 e refl
                              | inr line ↦
                                  elim (cases_eq b 13) [
                                    | inl e ↦ small_as b 13 e refl
                                    | inr carriage ↦
                                        elim (cases_eq b 9) [
                                          | inl e ↦ small_as b 9 e refl
                                          | inr tab ↦ other_small b h quote slash back feed line carriage tab
                                        ]
                                  ]
                            ]
                      ]
                ]
          ]
    ]

large_escape : (b : ℕ) → 128 ≤ b → escape_byte b ≡ b ∷ []
large_escape b h = grind (arith, nat_tests)

escape_large : (bs : List ℕ) → ((k : ℕ) → k < length bs → 128 ≤ get_or bs k 0) → escape bs ≡ bs
escape_large [] all = refl
escape_large (b ∷ bs) all =
    let own : escape_byte b ≡ b ∷ [] = large_escape b (all 0 (omega arith)) in
    ap (λ (l : List ℕ). l ++ escape bs) own ∙ ap (λ (l : List ℕ). b ∷ l) (escape_large bs (λ k h. all (suc k) (omega arith)))

large_bytes : (c : ℕ) → 128 ≤ c → (k : ℕ) → k < length (encode c) → 128 ≤ get_or (encode c) k 0
large_bytes c large k inside =
    elim (cases_lt (get_or (encode c) k 0) 128) [
      | inl low ↦ let same : c ≡ get_or (encode c) k 0 = inside_one c [] (encode c) k (sym (append-nil (encode c))) inside low in absurd (omega (arith, same, low, large))
      | inr high ↦ high
    ]

escape_char : (c : ℕ) → IsUtf8 (encode c) → IsUtf8 (escape (encode c))
escape_char c own =
    elim (cases_lt c 128) [
      | inl low ↦ let text : escape (encode c) ≡ escape_byte c = ap escape (encode_ascii c low) ∙ append-nil (escape_byte c) in subst IsUtf8 (sym text) (small_utf8 (escape_byte c) (escape_small c low))
      | inr high ↦ subst IsUtf8 (sym (escape_large (encode c) (large_bytes c high))) own
    ]

escape_chars : (cs : List ℕ) → scalars cs ≡ true → IsUtf8 (escape (encodes cs))
escape_chars [] each = IsUtf8-nil
escape_chars (c ∷ cs) each =
    let parts = and_parts (scalar c) (scalars cs) each in
    subst IsUtf8 (sym (flat_map-append escape_byte (encode c) (encodes cs)))
    (IsUtf8-append (escape (encode c)) (escape (encodes cs)) (escape_char c (IsUtf8-encode c parts.0)) (escape_chars cs parts.1))

quoted_utf8 : (content : List ℕ) → IsUtf8 content → IsUtf8 (quoted content)
quoted_utf8 content (cs, rest) =
    let (each, same) = rest in
    let mark = small_utf8 (codes "\"") refl in
    IsUtf8-append (codes "\"" ++ escape content) (codes "\"")
    (IsUtf8-append (codes "\"") (escape content) mark (subst (λ (bs : List ℕ). IsUtf8 (escape bs)) same (escape_chars cs each)))
    mark

-- ---- what is printed

own_utf8 : (s : Symbol) (own rest : List ℕ) → IsWritten s own rest → IsUtf8 own
own_utf8 (word name) own rest w = subst IsUtf8 (sym w.0) (small_utf8 name (all_small is_name_byte name_small name (list_all-from_AllPass is_name_byte name w.1.1)))
own_utf8 (number digits) own rest w = subst IsUtf8 (sym w.0) (small_utf8 digits (all_small is_number_byte number_small digits (number_bytes digits w.1.0)))
own_utf8 (string content) own rest w = subst IsUtf8 (sym w.0) (quoted_utf8 content w.1.0)
own_utf8 dot own rest w = subst IsUtf8 (sym w) (small_utf8 (codes ".") refl)
own_utf8 open_paren own rest w = subst IsUtf8 (sym w) (small_utf8 (codes "(") refl)
own_utf8 close_paren own rest w = subst IsUtf8 (sym w) (small_utf8 (codes ")") refl)
own_utf8 open_brace own rest w = subst IsUtf8 (sym w) (small_utf8 (codes "{") refl)
own_utf8 close_brace own rest w = subst IsUtf8 (sym w) (small_utf8 (codes "}") refl)
own_utf8 open_bracket own rest w = subst IsUtf8 (sym w) (small_utf8 (codes "[") refl)
own_utf8 close_bracket own rest w = subst IsUtf8 (sym w) (small_utf8 (codes "]") refl)
own_utf8 comma own rest w = subst IsUtf8 (sym w) (small_utf8 (codes ",") refl)
own_utf8 semicolon own rest w = subst IsUtf8 (sym w) (small_utf8 (codes ";") refl)
own_utf8 assign own rest w = subst IsUtf8 (sym w) (small_utf8 (codes ":=") refl)
own_utf8 equals own rest w = subst IsUtf8 (sym w) (small_utf8 (codes "=") refl)

pub printed_utf8 : (ss : List Symbol) (bs : List ℕ) → IsPrinted ss bs → IsUtf8 bs
printed_utf8 [] bs blank = small_utf8 bs (all_small is_blank_byte blank_small bs blank)
printed_utf8 (s ∷ ss) bs (gap, own, rest, blank, is, w, p) =
    subst IsUtf8 (sym is)
    (IsUtf8-append gap (own ++ rest) (small_utf8 gap (all_small is_blank_byte blank_small gap blank))
    (IsUtf8-append own rest (own_utf8 s own rest w) (printed_utf8 ss rest p)))
