-- About `Strings`: what a string of a UTF-8 text spells is UTF-8.
use Rattle.std.proofs.Common.{◌≡◌, ℕ, zero, suc, ◌+◌, ◌-◌, ◌*◌, ◌<◌, ◌≤◌, List, [], ◌++◌, length, slice_index, true, false, ◌&&◌, ◌==◌, nat_lt, Result, Ok, Option, Some, None, ◌⊎◌, inl, inr, refl, sym, subst, arith}
use Rattle.std.specs.List.{slice_range}
use Rattle.std.specs.Char.{encode_utf8, IsScalar}
use Rattle.std.specs.Str.{IsUtf8}
use Rattle.std.proofs.lemmas.Bool.{cases_Bool}
use Rattle.std.proofs.lemmas.Bool.Decides.{nat_tests}
use Rattle.std.proofs.lemmas.Str.{IsUtf8-append, IsUtf8-between, IsUtf8-encode, IsUtf8-nil}
use Rattle.jc_syntax.specs.declared.fault.LexFault.{LexFault}
use Rattle.jc_syntax.specs.declared.piece.Piece.{Piece}
use Rattle.jc_syntax.specs.declared.piece.Piece.TheVariants.{Escape}
use Rattle.jc_syntax.specs.declared.token.Token.{Token}
use Rattle.jc_syntax.specs.declared.token.TokenKind.{TokenKind}
use Rattle.jc_syntax.specs.declared.token.TokenKind.TheVariants.{Str}
use Rattle.jc_syntax.specs.Strings.{hex_digit, of_digits, unit_escape, short_escape, is_high, is_low, paired, pair_at, unit_at, short_or_unit, escape_at, piece_at, escape_of, after_plain}
use Rattle.jc_syntax.specs.Lexemes.{IsLexeme, LexemeEndsAt, IsStringToken, token_content}
use Rattle.jc_syntax.proofs.StringsContentLemmas.{string_content}
use Rattle.jc_syntax.proofs.StringsDecodeLemmas.{IsLeft, left_at_first, left_before, left_after_run, left_after_escape, run_stops, all_done, escape_is}
use Rattle.jc_syntax.proofs.StringsEscapesLemmas.{escape_inside}

-- ---- the character of an escape is a scalar value

scalar_below : (c : ℕ) → c < 55296 → IsScalar c
scalar_below c h = grind (arith, nat_tests)

scalar_above : (c : ℕ) → 57344 ≤ c → c < 1114112 → IsScalar c
scalar_above c low high = grind (arith, nat_tests)

short_below : (b c : ℕ) → short_escape b ≡ Some c → c < 55296
short_below b c e = grind (arith, nat_tests)

digit_below : (b x : ℕ) → hex_digit b ≡ Some x → x < 16
digit_below b x e = grind (arith, nat_tests)

digits_below : (a b c d : Option ℕ) (unit : ℕ) → ((x : ℕ) → a ≡ Some x → x < 16) → ((x : ℕ) → b ≡ Some x → x < 16) → ((x : ℕ) → c ≡ Some x → x < 16) → ((x : ℕ) → d ≡ Some x → x < 16) → of_digits a b c d ≡ Some unit → unit < 65536
digits_below (Some a) (Some b) (Some c) (Some d) unit fa fb fc fd e =
    let is : a * 4096 + b * 256 + c * 16 + d ≡ unit = cc e in
    omega (arith, is, fa a refl, fb b refl, fc c refl, fd d refl)
digits_below a b c d unit fa fb fc fd e = cc e

unit_below : (text : List ℕ) (at unit : ℕ) → unit_escape text at ≡ Some unit → unit < 65536
unit_below text at unit e =
    elim (cases_Bool (slice_index text at == 92 && slice_index text (at + 1) == 117)) [
      | inl does ↦
          digits_below (hex_digit (slice_index text (at + 2))) (hex_digit (slice_index text (at + 2 + 1))) (hex_digit (slice_index text (at + 2 + 2))) (hex_digit (slice_index text (at + 2 + 3))) unit
          (λ x. digit_below (slice_index text (at + 2)) x) (λ x. digit_below (slice_index text (at + 2 + 1)) x) (λ x. digit_below (slice_index text (at + 2 + 2)) x) (λ x. digit_below (slice_index text (at + 2 + 3)) x) (rw does at e)
      | inr fails ↦ let none = rw fails at e in cc none
    ]

high_range : (unit : ℕ) → is_high unit ≡ true → (55296 ≤ unit) × (unit < 56320)
high_range unit e = (grind (arith, nat_tests), grind (arith, nat_tests))

low_range : (unit : ℕ) → is_low unit ≡ true → (56320 ≤ unit) × (unit < 57344)
low_range unit e = (grind (arith, nat_tests), grind (arith, nat_tests))

paired_scalar : (high low : ℕ) → is_high high ≡ true → is_low low ≡ true → IsScalar (paired high low)
paired_scalar high low h l =
    let a = high_range high h in
    let b = low_range low l in
    scalar_above (paired high low) (omega (arith, a.0, a.1, b.0, b.1)) (omega (arith, a.0, a.1, b.0, b.1))

-- what is no half of a pair
single_scalar : (unit : ℕ) → unit < 65536 → is_high unit ≡ false → is_low unit ≡ false → IsScalar unit
single_scalar unit small no_high no_low = grind (arith, nat_tests)

abbrev IsThis : Result Piece LexFault → ℕ → ℕ → Type 0
IsThis r len c = r ≡ Ok (Escape len c)

pair_scalar : (at high len c : ℕ) (low : Option ℕ) → is_high high ≡ true → IsThis (pair_at at high low) len c → IsScalar c
pair_scalar at high len c None is h = cc h
pair_scalar at high len c (Some low) is h =
    elim (cases_Bool (is_low low)) [
      | inl does ↦
          let here = rw does at h in
          let same : paired high low ≡ c = cc here in
          subst IsScalar same (paired_scalar high low is does)
      | inr fails ↦ let none = rw fails at h in cc none
    ]

unit_scalar : (text : List ℕ) (at len c : ℕ) (unit : Option ℕ) → unit_escape text at ≡ unit → IsThis (unit_at text at unit) len c → IsScalar c
unit_scalar text at len c None e h = cc h
unit_scalar text at len c (Some unit) e h =
    elim (cases_Bool (is_high unit)) [
      | inl does ↦ pair_scalar at unit len c (unit_escape text (at + 6)) does (rw does at h)
      | inr fails ↦
          elim (cases_Bool (is_low unit)) [
            | inl does ↦ let none = rw (fails, does) at h in cc none
            | inr neither ↦
                let here = rw (fails, neither) at h in
                let same : unit ≡ c = cc here in
                subst IsScalar same (single_scalar unit (unit_below text at unit e) fails neither)
          ]
    ]

short_scalar : (text : List ℕ) (at len c : ℕ) (short : Option ℕ) → short_escape (slice_index text (at + 1)) ≡ short → IsThis (short_or_unit text at short) len c → IsScalar c
short_scalar text at len c None e h = unit_scalar text at len c (unit_escape text at) refl h
short_scalar text at len c (Some x) e h =
    let same : x ≡ c = cc h in
    subst IsScalar same (scalar_below x (short_below (slice_index text (at + 1)) x e))

escape_scalar : (text : List ℕ) (at len c : ℕ) → piece_at text at ≡ Ok (Escape len c) → IsScalar c
unfolding piece_at escape_at
escape_scalar text at len c h =
    elim (cases_Bool (nat_lt (slice_index text at) 32)) [
      | inl does ↦ let none = rw does at h in cc none
      | inr fails ↦
          elim (cases_Bool (slice_index text at == 92)) [
            | inl does ↦ short_scalar text at len c (short_escape (slice_index text (at + 1))) refl (rw (fails, does) at h)
            | inr other ↦ let none = rw (fails, other) at h in cc none
          ]
    ]

-- ---- what is left of a literal is spelled in UTF-8

-- a run of plain bytes and an escape later
pub record IsLater (text : List ℕ) (close at : ℕ) (whole : List ℕ) : Type 0 where
  pub next : ℕ
  pub done : List ℕ
  pub later : at < next
  pub left : IsLeft text close next done whole
  pub own : IsUtf8 done

after_run : (text : List ℕ) (close at : ℕ) (done whole : List ℕ) → IsUtf8 text → IsLeft text close at done whole → IsUtf8 done → IsUtf8 (done ++ slice_range text at (after_plain text at))
after_run text close at done whole utf8 h own =
    let there = left_after_run text close at done whole h in
    IsUtf8-append done (slice_range text at (after_plain text at)) own (IsUtf8-between text at (after_plain text at) utf8 (omega arith) h.boundary there.boundary)

step : (text : List ℕ) (close at : ℕ) (done whole : List ℕ) (next : Option (ℕ × ℕ)) → IsUtf8 text → IsLeft text close at done whole → IsUtf8 done → escape_of (piece_at text (after_plain text at)) ≡ next → IsUtf8 whole ⊎ IsLater text close at whole
step text close at done whole None utf8 h own e =
    let there = left_after_run text close at done whole h in
    let special = run_stops text at close h.inside (left_before text close (after_plain text at) (done ++ slice_range text at (after_plain text at)) whole there) in
    let same = all_done text close (after_plain text at) (done ++ slice_range text at (after_plain text at)) whole there special e in
    inl (subst IsUtf8 same (after_run text close at done whole utf8 h own))
step text close at done whole (Some (len, c)) utf8 h own e =
    let there = left_after_run text close at done whole h in
    let piece = escape_is text (after_plain text at) len c (sym e) in
    let inside = escape_inside text (after_plain text at) len c piece in
    inr (record {
      next = after_plain text at + len;
      done = (done ++ slice_range text at (after_plain text at)) ++ encode_utf8 c;
      later = omega (arith, inside.ends, inside.after);
      left = left_after_escape text close (after_plain text at) len c (done ++ slice_range text at (after_plain text at)) whole utf8 there piece;
      own = IsUtf8-append (done ++ slice_range text at (after_plain text at)) (encode_utf8 c) (after_run text close at done whole utf8 h own) (IsUtf8-encode c (escape_scalar text (after_plain text at) len c piece));
    })

walk : (fuel : ℕ) (text : List ℕ) (close at : ℕ) (done whole : List ℕ) → close < at + fuel → IsUtf8 text → IsLeft text close at done whole → IsUtf8 done → IsUtf8 whole
walk zero text close at done whole enough utf8 h own = absurd (omega (arith, enough, left_before text close at done whole h))
walk (suc fuel) text close at done whole enough utf8 h own =
    elim (step text close at done whole (escape_of (piece_at text (after_plain text at))) utf8 h own refl) [
      | inl all ↦ all
      | inr more ↦ walk fuel text close more.next more.done whole (omega (arith, enough, more.later)) utf8 more.left more.own
    ]

string_utf8 : (text : List ℕ) (t : Token) → IsUtf8 text → IsStringToken text t → IsUtf8 (token_content text t)
string_utf8 text t utf8 h = walk t.stop text (t.stop - 1) (t.start + 1) [] (token_content text t) (omega arith) utf8 (left_at_first text t utf8 h) IsUtf8-nil

-- how long a string's content is
content_short : (text : List ℕ) (t : Token) (size : ℕ) → LexemeEndsAt Str text t.start t.stop size → size ≤ 65535 → length (token_content text t) ≤ 65535
content_short text t size (content, string, is) within = rw (string_content text t content string) (omega (arith, is, within))

string_short : (text : List ℕ) (t : Token) → t.kind ≡ Str → IsLexeme text t → length (token_content text t) ≤ 65535
string_short text t kind is = content_short text t is.size (subst (λ (k : TokenKind). LexemeEndsAt k text t.start t.stop is.size) kind is.ends) (rw kind at is.within)

pub string_legal : (text : List ℕ) (t : Token) → IsUtf8 text → IsStringToken text t → IsUtf8 (token_content text t) × (length (token_content text t) ≤ 65535)
string_legal text t utf8 h = (string_utf8 text t utf8 h, string_short text t h.0 h.1.1)
