-- About `Strings`: string literals, put together from the end on.
use Rattle.std.proofs.Common.{◌≡◌, ◌≢◌, ℕ, ◌+◌, ◌<◌, ◌≤◌, List, [], ◌∷◌, ◌++◌, length, slice_index, false, ◌==◌, nat_lt, Ok, Some, refl, sym, ap, ◌∙◌, arith}
use Rattle.std.specs.Char.{encode_utf8}
use Rattle.std.proofs.lemmas.Bool.{ne_eqb, le-ltb, lt-ltb}
use Rattle.std.proofs.lemmas.Bool.Decides.{nat_tests}
use Rattle.jc_syntax.specs.declared.piece.Piece.{Piece}
use Rattle.jc_syntax.specs.declared.piece.Piece.TheVariants.{Byte, Escape}
use Rattle.jc_syntax.specs.Strings.{spelled, unit_escape, short_escape, is_high, is_low, escape_at, piece_at, ArePieces, IsString}

-- from one place up to another stand pieces that spell this
pub record IsSpelling (text : List ℕ) (at stop : ℕ) (content : List ℕ) : Type 0 where
  pub pieces : List Piece
  pub are : ArePieces text at pieces stop
  pub spells : content ≡ spelled pieces

pub spelling_none : (text : List ℕ) (at : ℕ) → IsSpelling text at at []
spelling_none text at = record { pieces = []; are = refl; spells = refl }

-- a byte that stands for itself comes first
pub byte_more : (text : List ℕ) (at stop b : ℕ) (content : List ℕ) → at < length text → slice_index text at ≡ b → 32 ≤ b → b ≢ 34 → b ≢ 92 → IsSpelling text (at + 1) stop content → IsSpelling text at stop (b ∷ content)
unfolding piece_at
byte_more text at stop b content inside here printable no_quote no_slash s =
    let control : nat_lt b 32 ≡ false = le-ltb b 32 printable in
    let slash : (b == 92) ≡ false = ne_eqb b 92 no_slash in
    record {
      pieces = Byte b ∷ s.pieces;
      are = (inside, λ quote. no_quote (sym here ∙ quote), rw (here, control, slash) refl, s.are);
      spells = ap (λ (l : List ℕ). b ∷ l) s.spells;
    }

one_byte : (b : ℕ) → b < 128 → encode_utf8 b ≡ b ∷ []
unfolding encode_utf8
one_byte b h = let below = lt-ltb b 128 h in rw below refl

-- an escape of a byte comes first
escape_more : (text : List ℕ) (at stop len b : ℕ) (content : List ℕ) → at < length text → slice_index text at ≡ 92 → piece_at text at ≡ Ok (Escape len b) → b < 128 → IsSpelling text (at + len) stop content → IsSpelling text at stop (b ∷ content)
escape_more text at stop len b content inside slash piece small s = record {
  pieces = Escape len b ∷ s.pieces;
  are = (inside, λ quote. cc (slash, quote), piece, s.are);
  spells = ap (λ (l : List ℕ). b ∷ l) s.spells ∙ ap (λ (l : List ℕ). l ++ spelled s.pieces) (sym (one_byte b small));
}

-- a backslash and a letter
pub short_more : (text : List ℕ) (at stop c b : ℕ) (content : List ℕ) → at < length text → slice_index text at ≡ 92 → slice_index text (at + 1) ≡ c → short_escape c ≡ Some b → b < 128 → IsSpelling text (at + 2) stop content → IsSpelling text at stop (b ∷ content)
unfolding piece_at escape_at
short_more text at stop c b content inside slash letter short small s = escape_more text at stop 2 b content inside slash (rw (slash, letter, short) refl) small s

-- a backslash, `u` and four digits
pub unit_more : (text : List ℕ) (at stop b : ℕ) (content : List ℕ) → at < length text → slice_index text at ≡ 92 → slice_index text (at + 1) ≡ 117 → unit_escape text at ≡ Some b → b < 128 → IsSpelling text (at + 6) stop content → IsSpelling text at stop (b ∷ content)
unfolding piece_at escape_at
unit_more text at stop b content inside slash letter unit small s =
    let not_high : is_high b ≡ false = grind (arith, nat_tests) in
    let not_low : is_low b ≡ false = grind (arith, nat_tests) in
    escape_more text at stop 6 b content inside slash (rw (slash, letter, unit, not_high, not_low) refl) small s

-- between quotes it is a literal
pub spelling_string : (text : List ℕ) (at close : ℕ) (content : List ℕ) → IsSpelling text (at + 1) close content → close < length text → slice_index text close ≡ 34 → IsString text at (close + 1) content
spelling_string text at close content s inside quote = record {
  pieces = s.pieces;
  close = close;
  between = s.are;
  inside = inside;
  closed = quote;
  ends = refl;
  spells = s.spells;
}
