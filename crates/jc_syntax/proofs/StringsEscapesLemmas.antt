-- About `Strings`: an escape lies inside its text, and its last byte is ASCII.
use Rattle.std.proofs.Common.{◌≡◌, ◌≢◌, ℕ, ◌+◌, ◌<◌, List, length, slice_index, true, false, ◌&&◌, ◌==◌, nat_lt, Result, Ok, Option, Some, None, inl, inr, refl, arith}
use Rattle.std.proofs.lemmas.Bool.{cases_Bool, cases_lt, eqb-true}
use Rattle.std.proofs.lemmas.Bool.Decides.{nat_tests}
use Rattle.std.proofs.lemmas.List.{get_or_past}
use Rattle.jc_syntax.specs.declared.fault.LexFault.{LexFault}
use Rattle.jc_syntax.specs.declared.piece.Piece.{Piece}
use Rattle.jc_syntax.specs.declared.piece.Piece.TheVariants.{Byte, Escape}
use Rattle.jc_syntax.specs.Strings.{piece_len, hex_digit, of_digits, unit_escape, short_escape, is_high, is_low, pair_at, unit_at, short_or_unit, escape_at, piece_at}

-- an escape has a byte after its backslash, and its last one stands in the text and is ASCII
pub record IsInside (text : List ℕ) (at len : ℕ) : Type 0 where
  pub last : ℕ
  pub ends : at + len ≡ last + 1
  pub after : at < last
  pub inside : last < length text
  pub ascii : slice_index text last < 128

-- past the end all bytes are 0
pub byte_inside : (text : List ℕ) (at : ℕ) → 0 < slice_index text at → at < length text
byte_inside text at some =
    elim (cases_lt at (length text)) [
      | inl inside ↦ inside
      | inr past ↦ absurd (omega (arith, some, get_or_past text at 0 past))
    ]

abbrev IsLetter : ℕ → Type 0
IsLetter b = (0 < b) × (b < 128)

inside_by : (text : List ℕ) (at len last : ℕ) → at + len ≡ last + 1 → at < last → IsLetter (slice_index text last) → IsInside text at len
inside_by text at len last ends after letter = record {
  last = last;
  ends = ends;
  after = after;
  inside = byte_inside text last letter.0;
  ascii = letter.1;
}

short_letter : (b c : ℕ) → short_escape b ≡ Some c → IsLetter b
short_letter b c e = grind (arith, nat_tests)

digit_letter : (b x : ℕ) → hex_digit b ≡ Some x → IsLetter b
digit_letter b x e = grind (arith, nat_tests)

last_digit : (a b c d : Option ℕ) (unit : ℕ) → of_digits a b c d ≡ Some unit → (x : ℕ) × (d ≡ Some x)
last_digit (Some a) (Some b) (Some c) (Some d) unit e = (d, refl)
last_digit a b c d unit e = cc e

-- the last digit of an escape
unit_letter : (text : List ℕ) (at unit : ℕ) → unit_escape text at ≡ Some unit → IsLetter (slice_index text (at + 2 + 3))
unit_letter text at unit e =
    elim (cases_Bool (slice_index text at == 92 && slice_index text (at + 1) == 117)) [
      | inl does ↦
          let digits = rw does at e in
          let d = last_digit (hex_digit (slice_index text (at + 2))) (hex_digit (slice_index text (at + 2 + 1))) (hex_digit (slice_index text (at + 2 + 2))) (hex_digit (slice_index text (at + 2 + 3))) unit digits in
          digit_letter (slice_index text (at + 2 + 3)) d.0 d.1
      | inr fails ↦ let none = rw fails at e in cc none
    ]

abbrev IsThis : Result Piece LexFault → ℕ → ℕ → Type 0
IsThis r len c = r ≡ Ok (Escape len c)

pair_inside : (text : List ℕ) (at high len c : ℕ) (low : Option ℕ) → unit_escape text (at + 6) ≡ low → IsThis (pair_at at high low) len c → IsInside text at len
pair_inside text at high len c None e h = cc h
pair_inside text at high len c (Some low) e h =
    elim (cases_Bool (is_low low)) [
      | inl does ↦
          let here = rw does at h in
          let twelve : 12 ≡ len = cc here in
          inside_by text at len (at + 6 + 2 + 3) (omega (arith, twelve)) (omega arith) (unit_letter text (at + 6) low e)
      | inr fails ↦ let none = rw fails at h in cc none
    ]

unit_inside : (text : List ℕ) (at len c : ℕ) (unit : Option ℕ) → unit_escape text at ≡ unit → IsThis (unit_at text at unit) len c → IsInside text at len
unit_inside text at len c None e h = cc h
unit_inside text at len c (Some unit) e h =
    elim (cases_Bool (is_high unit)) [
      | inl does ↦ pair_inside text at unit len c (unit_escape text (at + 6)) refl (rw does at h)
      | inr fails ↦
          elim (cases_Bool (is_low unit)) [
            | inl does ↦ let none = rw (fails, does) at h in cc none
            | inr neither ↦
                let here = rw (fails, neither) at h in
                let six : 6 ≡ len = cc here in
                inside_by text at len (at + 2 + 3) (omega (arith, six)) (omega arith) (unit_letter text at unit e)
          ]
    ]

short_inside : (text : List ℕ) (at len c : ℕ) (short : Option ℕ) → short_escape (slice_index text (at + 1)) ≡ short → IsThis (short_or_unit text at short) len c → IsInside text at len
short_inside text at len c None e h = unit_inside text at len c (unit_escape text at) refl h
short_inside text at len c (Some x) e h =
    let two : 2 ≡ len = cc h in
    inside_by text at len (at + 1) (omega (arith, two)) (omega arith) (short_letter (slice_index text (at + 1)) x e)

-- what stands at a place that is no escape is a byte
pub plain_piece : (text : List ℕ) (at : ℕ) (p : Piece) → piece_at text at ≡ Ok p → slice_index text at ≢ 92 → p ≡ Byte (slice_index text at)
unfolding piece_at
plain_piece text at p h plain =
    elim (cases_Bool (nat_lt (slice_index text at) 32)) [
      | inl does ↦ let none = rw does at h in cc none
      | inr fails ↦
          elim (cases_Bool (slice_index text at == 92)) [
            | inl does ↦ absurd (plain (eqb-true (slice_index text at) 92 does))
            | inr other ↦ let here = rw (fails, other) at h in cc here
          ]
    ]

pub escape_inside : (text : List ℕ) (at len c : ℕ) → piece_at text at ≡ Ok (Escape len c) → IsInside text at len
unfolding piece_at escape_at
escape_inside text at len c h =
    elim (cases_Bool (nat_lt (slice_index text at) 32)) [
      | inl does ↦ let none = rw does at h in cc none
      | inr fails ↦
          elim (cases_Bool (slice_index text at == 92)) [
            | inl does ↦ short_inside text at len c (short_escape (slice_index text (at + 1))) refl (rw (fails, does) at h)
            | inr other ↦ let none = rw (fails, other) at h in cc none
          ]
    ]

pub piece_some : (text : List ℕ) (at : ℕ) (p : Piece) → piece_at text at ≡ Ok p → 0 < piece_len p
piece_some text at (Byte b) h = omega arith
piece_some text at (Escape len c) h =
    let there = escape_inside text at len c h in
    omega (arith, there.ends, there.after)

-- ---- an escape is no byte

abbrev IsByte : Result Piece LexFault → ℕ → Type 0
IsByte r b = r ≡ Ok (Byte b)

pair_no_byte : (at high b : ℕ) (low : Option ℕ) → IsByte (pair_at at high low) b → ⊥
pair_no_byte at high b None h = cc h
pair_no_byte at high b (Some low) h =
    elim (cases_Bool (is_low low)) [
      | inl does ↦ let none = rw does at h in cc none
      | inr fails ↦ let none = rw fails at h in cc none
    ]

unit_no_byte : (text : List ℕ) (at b : ℕ) (unit : Option ℕ) → IsByte (unit_at text at unit) b → ⊥
unit_no_byte text at b None h = cc h
unit_no_byte text at b (Some unit) h =
    elim (cases_Bool (is_high unit)) [
      | inl does ↦ pair_no_byte at unit b (unit_escape text (at + 6)) (rw does at h)
      | inr fails ↦
          elim (cases_Bool (is_low unit)) [
            | inl does ↦ let none = rw (fails, does) at h in cc none
            | inr neither ↦ let none = rw (fails, neither) at h in cc none
          ]
    ]

short_no_byte : (text : List ℕ) (at b : ℕ) (short : Option ℕ) → IsByte (short_or_unit text at short) b → ⊥
short_no_byte text at b None h = unit_no_byte text at b (unit_escape text at) h
short_no_byte text at b (Some x) h = cc h

pub backslash_no_byte : (text : List ℕ) (at b : ℕ) → slice_index text at ≡ 92 → piece_at text at ≡ Ok (Byte b) → ⊥
unfolding piece_at escape_at
backslash_no_byte text at b slash h =
    let escape : nat_lt (slice_index text at) 32 ≡ false = rw slash refl in
    let here : (slice_index text at == 92) ≡ true = rw slash refl in
    short_no_byte text at b (short_escape (slice_index text (at + 1))) (rw (escape, here) at h)

-- a quote stands for itself
pub quote_no_escape : (text : List ℕ) (at len c : ℕ) → slice_index text at ≡ 34 → piece_at text at ≡ Ok (Escape len c) → ⊥
unfolding piece_at
quote_no_escape text at len c quote h =
    let plain : nat_lt (slice_index text at) 32 ≡ false = rw quote refl in
    let other : (slice_index text at == 92) ≡ false = rw quote refl in
    let none = rw (plain, other) at h in
    cc none
