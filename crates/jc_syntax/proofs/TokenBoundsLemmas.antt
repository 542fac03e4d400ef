-- About `Lexemes`: tokens begin and end where characters do.
use Rattle.std.proofs.Common.{◌≡◌, ℕ, ◌+◌, ◌-◌, ◌<◌, List, length, slice_index, get_or, drop, Bool, true, Some, arith, get_or-drop, length-drop}
use Rattle.std.specs.List.{prefix_len}
use Rattle.std.specs.Str.{IsUtf8, IsCharBoundary}
use Rattle.std.proofs.lemmas.Bool.Decides.{nat_tests}
use Rattle.std.proofs.lemmas.List.Sums.{prefix_len_passes, prefix_len-le-length}
use Rattle.std.proofs.lemmas.Str.{IsCharBoundary-after_ascii}
use Rattle.jc_syntax.specs.declared.token.Token.{Token}
use Rattle.jc_syntax.specs.declared.token.TokenKind.{TokenKind}
use Rattle.jc_syntax.specs.declared.token.TokenKind.TheVariants.{Name, Number, Str, Assign}
use Rattle.jc_syntax.specs.Bytes.{is_name_byte, is_number_byte}
use Rattle.jc_syntax.specs.Lexemes.{kind_of_byte, kind_at, LexemeEndsAt, IsLexeme}
use Rattle.jc_syntax.proofs.StringsEscapesLemmas.{byte_inside}
use Rattle.jc_syntax.proofs.LexemesLemmas.{lexeme_later}

abbrev IsLetter : ℕ → Type 0
IsLetter b = (0 < b) × (b < 128)

kind_letter : (b next : ℕ) (kind : TokenKind) → kind_of_byte b next ≡ Some kind → IsLetter b
kind_letter b next kind e = grind (arith, nat_tests)

assign_next : (b next : ℕ) → kind_of_byte b next ≡ Some Assign → next ≡ 61
assign_next b next e = grind (arith, nat_tests)

name_letter : (b : ℕ) → is_name_byte b ≡ true → b < 128
name_letter b e = grind (arith, nat_tests)

number_letter : (b : ℕ) → is_number_byte b ≡ true → b < 128
number_letter b e = grind (arith, nat_tests)

-- the last byte of a token
pub record EndsInside (text : List ℕ) (stop : ℕ) : Type 0 where
  pub last : ℕ
  pub ends : stop ≡ last + 1
  pub inside : last < length text
  pub ascii : slice_index text last < 128

-- a run of ASCII bytes that is not empty
run_ends : (p : ℕ → Bool) (text : List ℕ) (at stop : ℕ) → ((b : ℕ) → p b ≡ true → b < 128) → at < length text → stop ≡ at + prefix_len p (drop at text) → at < stop → EndsInside text stop
run_ends p text at stop ascii inside is later =
    let n = prefix_len p (drop at text) in
    let most = prefix_len-le-length p (drop at text) in
    let size = length-drop at text in
    let passes = rw get_or-drop at (prefix_len_passes p (drop at text) (n - 1) 0 (omega (arith, is, later))) in
    record {
      last = at + (n - 1);
      ends = omega (arith, is, later);
      inside = omega (arith, is, later, most, size);
      ascii = ascii (get_or text (at + (n - 1)) 0) passes;
    }

mark_ends : (text : List ℕ) (at stop last : ℕ) → stop ≡ last + 1 → IsLetter (slice_index text last) → EndsInside text stop
mark_ends text at stop last ends letter = record { last = last; ends = ends; inside = byte_inside text last letter.0; ascii = letter.1 }

ends_inside : (kind : TokenKind) (text : List ℕ) (at stop size : ℕ) → kind_at text at ≡ Some kind → LexemeEndsAt kind text at stop size → at < stop → EndsInside text stop
ends_inside Name text at stop size k e later = run_ends is_name_byte text at stop name_letter (byte_inside text at (kind_letter (slice_index text at) (slice_index text (at + 1)) Name k).0) e.0 later
ends_inside Number text at stop size k e later = run_ends is_number_byte text at stop number_letter (byte_inside text at (kind_letter (slice_index text at) (slice_index text (at + 1)) Number k).0) e.0 later
ends_inside Str text at stop size k e later = record {
  last = e.1.close;
  ends = e.1.ends;
  inside = e.1.inside;
  ascii = rw e.1.closed (omega arith);
}
ends_inside Assign text at stop size k e later =
    let next : slice_index text (at + 1) ≡ 61 = assign_next (slice_index text at) (slice_index text (at + 1)) k in
    mark_ends text at stop (at + 1) (omega (arith, e.0, e.1)) (omega (arith, next), omega (arith, next))
ends_inside kind text at stop size k e later =
    mark_ends text at stop at (omega (arith, e.0, e.1)) (kind_letter (slice_index text at) (slice_index text (at + 1)) kind k)

first_letter : (text : List ℕ) (t : Token) → IsLexeme text t → IsLetter (slice_index text t.start)
first_letter text t is = kind_letter (slice_index text t.start) (slice_index text (t.start + 1)) t.kind is.begins

pub first_ascii : (text : List ℕ) (t : Token) → IsLexeme text t → slice_index text t.start < 128
first_ascii text t is = (first_letter text t is).1

pub starts_inside : (text : List ℕ) (t : Token) → IsLexeme text t → t.start < length text
starts_inside text t is = byte_inside text t.start (first_letter text t is).0

pub starts_first : (text : List ℕ) (t : Token) → IsLexeme text t → t.start < t.stop
starts_first text t is = lexeme_later text t (starts_inside text t is) is

pub last_of : (text : List ℕ) (t : Token) → IsLexeme text t → EndsInside text t.stop
last_of text t is = ends_inside t.kind text t.start t.stop is.size is.begins is.ends (starts_first text t is)

pub stop_boundary : (text : List ℕ) (t : Token) → IsUtf8 text → IsLexeme text t → IsCharBoundary text t.stop
stop_boundary text t utf8 is =
    let end = last_of text t is in
    rw end.ends (IsCharBoundary-after_ascii text end.last utf8 end.inside end.ascii)
