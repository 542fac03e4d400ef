-- About `Strings`: what string literals spell.
use Rattle.std.proofs.Common.{◌≡◌, ◌≢◌, ℕ, zero, suc, ◌+◌, ◌-◌, ◌<◌, ◌≤◌, List, [], ◌∷◌, ◌++◌, length, slice_index, take, drop, true, false, ◌==◌, inl, inr, refl, sym, subst, ap, ◌∙◌, arith, add-one, add-zero, drop-cons}
use Rattle.std.specs.List.{prefix_len}
use Rattle.std.proofs.lemmas.Bool.{cases_Bool, ne_eqb}
use Rattle.std.proofs.lemmas.Bool.Decides.{nat_tests}
use Rattle.std.proofs.lemmas.List.Sums.{prefix_len-drop_yes, prefix_len-drop_no}
use Rattle.jc_syntax.specs.declared.piece.Piece.{Piece}
use Rattle.jc_syntax.specs.declared.piece.Piece.TheVariants.{Byte}
use Rattle.jc_syntax.specs.declared.token.Token.{Token}
use Rattle.jc_syntax.specs.declared.token.TokenKind.{TokenKind}
use Rattle.jc_syntax.specs.declared.token.TokenKind.TheVariants.{Str}
use Rattle.jc_syntax.specs.Strings.{piece_len, piece_bytes, spelled, is_plain_byte, ArePieces, IsString, spelled_from}
use Rattle.jc_syntax.specs.Lexemes.{LexemeEndsAt, IsLexeme, token_content}
use Rattle.jc_syntax.proofs.StringsEscapesLemmas.{plain_piece, piece_some}

-- ---- the plain bytes at the front of what is left

abbrev run : List ℕ → ℕ → ℕ
run text at = prefix_len is_plain_byte (drop at text)

-- after n bytes these pieces are left
pub record IsAfter (text : List ℕ) (at close n : ℕ) (ps : List Piece) : Type 0 where
  pub left : List Piece
  pub are : ArePieces text (at + n) left close
  pub spells : spelled ps ≡ take n (drop at text) ++ spelled left

plain_tests : (b : ℕ) → is_plain_byte b ≡ true → (b ≢ 34) × (b ≢ 92)
plain_tests b e = (grind (arith, nat_tests), grind (arith, nat_tests))

none_after : (text : List ℕ) (at close n : ℕ) (ps : List Piece) → ArePieces text at ps close → n ≡ 0 → IsAfter text at close n ps
none_after text at close n ps h none = rw none (record { left = ps; are = rw add-zero h; spells = refl })

one_after : (text : List ℕ) (at close m n : ℕ) (b : ℕ) (ps : List Piece) → drop at text ≡ b ∷ drop (at + 1) text → n ≡ 1 + m → IsAfter text (at + 1) close m ps → IsAfter text at close n (Byte b ∷ ps)
one_after text at close m n b ps front more h =
    let count : n ≡ suc m = omega (arith, more) in
    let place : at + 1 + m ≡ at + suc m = omega arith in
    rw count (record {
      left = h.left;
      are = rw place at h.are;
      spells = rw front (ap (λ (l : List ℕ). b ∷ l) h.spells);
    })

pub plain_pieces : (text : List ℕ) (at close : ℕ) (ps : List Piece) → ArePieces text at ps close → close < length text → slice_index text close ≡ 34 → IsAfter text at close (prefix_len is_plain_byte (drop at text)) ps
plain_pieces text at close [] h inside closed =
    let other : is_plain_byte (slice_index text at) ≡ false = rw (h, closed) refl in
    let here : at < length text = omega (arith, h, inside) in
    none_after text at close (prefix_len is_plain_byte (drop at text)) [] h (prefix_len-drop_no is_plain_byte text at 0 here other)
plain_pieces text at close (p ∷ ps) h inside closed =
    elim (cases_Bool (is_plain_byte (slice_index text at))) [
      | inl plain ↦
          let byte : p ≡ Byte (slice_index text at) = plain_piece text at p h.2 (plain_tests (slice_index text at) plain).1 in
          let rest : ArePieces text (at + 1) ps close = rw byte at h.3 in
          let front : drop at text ≡ slice_index text at ∷ drop (at + 1) text = rw add-one (drop-cons text at 0 h.0) in
          rw byte (one_after text at close (prefix_len is_plain_byte (drop (at + 1) text)) (prefix_len is_plain_byte (drop at text)) (slice_index text at) ps front (prefix_len-drop_yes is_plain_byte text at 0 h.0 plain) (plain_pieces text (at + 1) close ps rest inside closed))
      | inr other ↦ none_after text at close (prefix_len is_plain_byte (drop at text)) (p ∷ ps) h (prefix_len-drop_no is_plain_byte text at 0 h.0 other)
    ]

-- ---- what a literal spells, piece by piece

pieces_count : (text : List ℕ) (at stop : ℕ) (ps : List Piece) → ArePieces text at ps stop → at + length ps ≤ stop
pieces_count text at stop [] h = omega (arith, h)
pieces_count text at stop (p ∷ ps) h = omega (arith, pieces_count text (at + piece_len p) stop ps h.3, piece_some text at p h.2)

pieces_spell : (count : ℕ) (text : List ℕ) (at close : ℕ) (ps : List Piece) → ArePieces text at ps close → slice_index text close ≡ 34 → length ps ≤ count → spelled_from count text at ≡ spelled ps
unfolding spelled_from
pieces_spell zero text at close [] h closed enough = refl
pieces_spell (suc count) text at close [] h closed enough =
    let quote : (slice_index text at == 34) ≡ true = rw (h, closed) refl in
    rw quote refl
pieces_spell zero text at close (p ∷ ps) h closed enough = absurd (omega (arith, enough))
pieces_spell (suc count) text at close (p ∷ ps) h closed enough =
    let other : (slice_index text at == 34) ≡ false = ne_eqb (slice_index text at) 34 h.1 in
    rw (other, h.2) (ap (λ (l : List ℕ). piece_bytes p ++ l) (pieces_spell count text (at + piece_len p) close ps h.3 closed (omega (arith, enough))))

pub string_content : (text : List ℕ) (t : Token) (c : List ℕ) → IsString text t.start t.stop c → token_content text t ≡ c
unfolding token_content
string_content text t c s =
    let few = pieces_count text (t.start + 1) s.close s.pieces s.between in
    pieces_spell (t.stop - t.start) text (t.start + 1) s.close s.pieces s.between s.closed (omega (arith, few, s.ends)) ∙ sym s.spells

ends_string : (kind : TokenKind) (text : List ℕ) (at stop size : ℕ) → kind ≡ Str → LexemeEndsAt kind text at stop size → (c : List ℕ) × IsString text at stop c
ends_string kind text at stop size is e =
    let here : LexemeEndsAt Str text at stop size = subst (λ (k : TokenKind). LexemeEndsAt k text at stop size) is e in
    (here.0, here.1)

-- a string token is the string that it spells
pub token_is_string : (text : List ℕ) (t : Token) → t.kind ≡ Str → IsLexeme text t → IsString text t.start t.stop (token_content text t)
token_is_string text t kind is =
    let s = ends_string t.kind text t.start t.stop is.size kind is.ends in
    rw (string_content text t s.0 s.1) s.1
