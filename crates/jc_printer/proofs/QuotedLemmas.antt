-- About `Canon`: a string literal spells what it was quoted from.
use Rattle.std.proofs.Common.{◌≡◌, ◌≢◌, ℕ, ◌+◌, ◌*◌, ◌/◌, ◌%◌, ◌<◌, ◌≤◌, List, [], ◌∷◌, ◌++◌, length, slice_index, drop, true, nat_lt, nat_le, Some, inl, inr, refl, sym, ap, subst, ◌∙◌, arith, append_assoc}
use Rattle.std.specs.Prelude.{codes}
use Rattle.std.specs.Char.{digit_char}
use Rattle.std.proofs.lemmas.Bool.{cases_Bool, cases_eq, ne_eqb, leb-true, leb-false, lt-ltb}
use Rattle.std.proofs.lemmas.List.{length-append}
use Rattle.std.proofs.lemmas.Str.{digit_value-digit_char}
use Rattle.jc_syntax.specs.Strings.{hex_digit, unit_escape, short_escape, IsString}
use Rattle.jc_syntax.proofs.StringsLemmas.{IsSpelling, spelling_none, byte_more, short_more, unit_more, spelling_string}
use Rattle.jc_printer.specs.Canon.{escape_byte, escape, quoted}
use Rattle.jc_printer.proofs.PrefixLemmas.{left_after, byte_there, byte_here, stands}

-- ---- one byte

-- from what is written for a byte on, the byte is spelled before the rest
abbrev Spells : List ℕ → ℕ → ℕ → Type 0
Spells text at b = (stop : ℕ) (content : List ℕ) → IsSpelling text (at + length (escape_byte b)) stop content → IsSpelling text at stop (b ∷ content)

-- a backslash and a letter
short_spells : (text : List ℕ) (at b n c : ℕ) (rest : List ℕ) → b ≡ n → escape_byte n ≡ 92 ∷ c ∷ [] → short_escape c ≡ Some n → n < 128 → drop at text ≡ escape_byte b ++ rest → Spells text at b
short_spells text at b n c rest same written short small h stop content s =
    let own : escape_byte b ≡ 92 ∷ c ∷ [] = ap escape_byte same ∙ written in
    let here : drop at text ≡ 92 ∷ c ∷ rest = h ∙ ap (λ (l : List ℕ). l ++ rest) own in
    let value : short_escape c ≡ Some b = short ∙ ap Some (sym same) in
    let below : b < 128 = omega (arith, same, small) in
    let size : length (escape_byte b) ≡ 2 = ap length own in
    short_more text at stop c b content (stands text at 92 (c ∷ rest) here) (byte_here text at 92 (c ∷ rest) here) (byte_there text at 1 c (92 ∷ c ∷ rest) here refl) value below (rw size at s)

hex : (d : ℕ) → d < 16 → hex_digit (digit_char d) ≡ Some d
hex d small =
    let value = digit_value-digit_char d (omega arith) in
    let below : nat_lt d 16 ≡ true = lt-ltb d 16 small in
    rw (value, below) refl

-- the number that four digits write, two of them noughts
unit_of : (text : List ℕ) (at b : ℕ) (rest : List ℕ) → drop at text ≡ 92 ∷ 117 ∷ 48 ∷ 48 ∷ digit_char (b / 16) ∷ digit_char (b % 16) ∷ rest → b < 32 → unit_escape text at ≡ Some b
unit_of text at b rest h small =
    let bytes : List ℕ = 92 ∷ 117 ∷ 48 ∷ 48 ∷ digit_char (b / 16) ∷ digit_char (b % 16) ∷ rest in
    let slash : slice_index text at ≡ 92 = byte_here text at 92 _ h in
    let letter : slice_index text (at + 1) ≡ 117 = byte_there text at 1 117 bytes h refl in
    let first : slice_index text (at + 2) ≡ 48 = byte_there text at 2 48 bytes h refl in
    let second : slice_index text (at + 2 + 1) ≡ 48 = subst (λ (n : ℕ). slice_index text n ≡ 48) (omega arith) (byte_there text at 3 48 bytes h refl) in
    let third : slice_index text (at + 2 + 2) ≡ digit_char (b / 16) = subst (λ (n : ℕ). slice_index text n ≡ digit_char (b / 16)) (omega arith) (byte_there text at 4 (digit_char (b / 16)) bytes h refl) in
    let fourth : slice_index text (at + 2 + 3) ≡ digit_char (b % 16) = subst (λ (n : ℕ). slice_index text n ≡ digit_char (b % 16)) (omega arith) (byte_there text at 5 (digit_char (b % 16)) bytes h refl) in
    let high : hex_digit (digit_char (b / 16)) ≡ Some (b / 16) = hex (b / 16) (omega arith) in
    let low : hex_digit (digit_char (b % 16)) ≡ Some (b % 16) = hex (b % 16) (omega arith) in
    let value : 0 * 4096 + 0 * 256 + b / 16 * 16 + b % 16 ≡ b = omega arith in
    rw (slash, letter, first, second, third, fourth, high, low) (ap Some value)

-- a backslash, `u` and four digits
unit_spells : (text : List ℕ) (at b : ℕ) (rest : List ℕ) → escape_byte b ≡ codes "\\u00" ++ digit_char (b / 16) ∷ digit_char (b % 16) ∷ [] → b < 32 → drop at text ≡ escape_byte b ++ rest → Spells text at b
unit_spells text at b rest written small h stop content s =
    let bytes : List ℕ = 92 ∷ 117 ∷ 48 ∷ 48 ∷ digit_char (b / 16) ∷ digit_char (b % 16) ∷ rest in
    let here : drop at text ≡ 92 ∷ 117 ∷ 48 ∷ 48 ∷ digit_char (b / 16) ∷ digit_char (b % 16) ∷ rest = h ∙ ap (λ (l : List ℕ). l ++ rest) written in
    let size : length (escape_byte b) ≡ 6 = ap length written in
    let below : b < 128 = omega (arith, small) in
    unit_more text at stop b content (stands text at 92 _ here) (byte_here text at 92 _ here) (byte_there text at 1 117 bytes here refl) (unit_of text at b rest here small) below (rw size at s)

-- a byte that stands for itself
byte_spells : (text : List ℕ) (at b : ℕ) (rest : List ℕ) → escape_byte b ≡ b ∷ [] → 32 ≤ b → b ≢ 34 → b ≢ 92 → drop at text ≡ escape_byte b ++ rest → Spells text at b
byte_spells text at b rest written printable no_quote no_slash h stop content s =
    let here : drop at text ≡ b ∷ rest = h ∙ ap (λ (l : List ℕ). l ++ rest) written in
    let size : length (escape_byte b) ≡ 1 = ap length written in
    byte_more text at stop b content (stands text at b rest here) (byte_here text at b rest here) printable no_quote no_slash (rw size at s)

-- a byte without a letter of its own
abbrev IsOther : ℕ → Type 0
IsOther b = (b ≢ 34) × (b ≢ 92) × (b ≢ 8) × (b ≢ 12) × (b ≢ 10) × (b ≢ 13) × (b ≢ 9)

other_spells : (text : List ℕ) (at b : ℕ) (rest : List ℕ) → IsOther b → drop at text ≡ escape_byte b ++ rest → Spells text at b
other_spells text at b rest o h =
    let quote = ne_eqb b 34 o.0 in
    let slash = ne_eqb b 92 o.1 in
    let back = ne_eqb b 8 o.2 in
    let feed = ne_eqb b 12 o.3 in
    let line = ne_eqb b 10 o.4 in
    let carriage = ne_eqb b 13 o.5 in
    let tab = ne_eqb b 9 o.6 in
    elim (cases_Bool (nat_le 32 b)) [
      | inl printable ↦ byte_spells text at b rest (rw (quote, slash, back, feed, line, carriage, tab, printable) refl) (leb-true 32 b printable) o.0 o.1 h
      | inr control ↦ unit_spells text at b rest (rw (quote, slash, back, feed, line, carriage, tab, control) refl) (leb-false 32 b control) h
    ]

-- what is written for a byte spells it
spells : (text : List ℕ) (at b : ℕ) (rest : List ℕ) → drop at text ≡ escape_byte b ++ rest → Spells text at b
spells text at b rest h =
    elim (cases_eq b 34) [
      | inl e ↦ short_spells text at b 34 34 rest e refl refl (omega arith) h
      | inr quote ↦
          elim (cases_eq b 92) [
            | inl e ↦ short_spells text at b 92 92 rest e refl refl (omega arith) h
            | inr slash ↦
                elim (cases_eq b 8) [
                  | inl e ↦ short_spells text at b 8 98 rest e refl refl (omega arith) h
                  | inr back ↦
                      elim (cases_eq b 12) [
                        | inl e ↦ short_spells text at b 12 102 rest e refl refl (omega arith) h
                        | inr feed ↦
                            elim (cases_eq b 10) [
                              | inl e ↦ short_spells text at b 10 110 rest e refl refl (omega arith) h
                              | inr line ↦
                                  elim (cases_eq b 13) [
                                    | inl e ↦ short_spells text at b 13 114 rest e refl refl (omega arith) h
                                    | inr carriage ↦
                                        elim (cases_eq b 9) [
                                          | inl e ↦ short_spells text at b 9 116 rest e refl refl (omega arith) h
                                          | inr tab ↦
                                              other_spells text at b rest (quote, slash, back, feed, line, carriage, tab) h
                                        ]
                                  ]
                            ]
                      ]
                ]
          ]
    ]

-- ---- the bytes of a string

escaped : (text : List ℕ) (at : ℕ) (content rest : List ℕ) → drop at text ≡ escape content ++ rest → IsSpelling text at (at + length (escape content)) content
escaped text at [] rest h = subst (λ (n : ℕ). IsSpelling text at n []) (omega arith) (spelling_none text at)
escaped text at (b ∷ bs) rest h =
    let split : drop at text ≡ escape_byte b ++ (escape bs ++ rest) = h ∙ append_assoc (escape_byte b) (escape bs) rest in
    let next = left_after text at (length (escape_byte b)) (escape_byte b) (escape bs ++ rest) split refl in
    let more = escaped text (at + length (escape_byte b)) bs rest next in
    let stop : at + length (escape_byte b) + length (escape bs) ≡ at + length (escape (b ∷ bs)) = omega (arith, length-append (escape_byte b) (escape bs)) in
    subst (λ (n : ℕ). IsSpelling text at n (b ∷ bs)) stop (spells text at b (escape bs ++ rest) split (at + length (escape_byte b) + length (escape bs)) bs more)

-- what is quoted is a string literal that spells it
pub quoted_string : (text : List ℕ) (at : ℕ) (content rest : List ℕ) → drop at text ≡ quoted content ++ rest → IsString text at (at + length (quoted content)) content
quoted_string text at content rest h =
    let split : drop at text ≡ 34 ∷ (escape content ++ 34 ∷ rest) = h ∙ ap (λ (l : List ℕ). 34 ∷ l) (append_assoc (escape content) (34 ∷ []) rest) in
    let inner = left_after text at 1 (34 ∷ []) (escape content ++ 34 ∷ rest) split refl in
    let last = left_after text (at + 1) (length (escape content)) (escape content) (34 ∷ rest) inner refl in
    let stop : at + 1 + length (escape content) + 1 ≡ at + length (quoted content) = omega (arith, length-append (escape content) (34 ∷ [])) in
    subst (λ (n : ℕ). IsString text at n content) stop (spelling_string text at (at + 1 + length (escape content)) content (escaped text (at + 1) content (34 ∷ rest) inner) (stands text (at + 1 + length (escape content)) 34 rest last) (byte_here text (at + 1 + length (escape content)) 34 rest last))
