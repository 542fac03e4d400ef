-- Symbols that are written one after the other, with any blanks between them, are the symbols of that text.
use Rattle.std.proofs.Common.{◌≡◌, ℕ, ◌+◌, ◌≤◌, List, [], ◌∷◌, ◌++◌, length, slice_index, drop, true, false, refl, sym, ap, ◌∙◌, arith, append-nil, length-drop, add-zero}
use Rattle.std.specs.List.{prefix_len, list_all}
use Rattle.std.proofs.lemmas.Bool.{and_from}
use Rattle.std.proofs.lemmas.List.{get_or-drop}
use Rattle.jc_syntax.specs.declared.token.Token.{Token}
use Rattle.jc_syntax.specs.Bytes.{is_blank_byte}
use Rattle.jc_syntax.specs.Lexemes.{after_blanks, AreTokens, AreTokensOf}
use Rattle.jc_grammar.specs.Symbols.{Symbol, lexemes, symbols}
use Rattle.jc_printer.proofs.PrefixLemmas.{left_after}
use Rattle.jc_printer.proofs.WrittenSymbolsLemmas.{IsPartedBy, IsWritten, run_is, written_is}

-- the symbols are written so, with blanks before each of them and at the end
abbrev pub IsPrinted : List Symbol → List ℕ → Type 0
IsPrinted [] bs = list_all is_blank_byte bs ≡ true
IsPrinted (s ∷ ss) bs =
    (gap : List ℕ) × (own : List ℕ) × (rest : List ℕ) × (list_all is_blank_byte gap ≡ true) × (bs ≡ gap ++ (own ++ rest)) × IsWritten s own rest × IsPrinted ss rest

pub put : (s : Symbol) (ss : List Symbol) (own rest : List ℕ) → IsWritten s own rest → IsPrinted ss rest → IsPrinted (s ∷ ss) (own ++ rest)
put s ss own rest w p = ([], own, rest, refl, refl, w, p)

-- one blank more
pub spaced : (ss : List Symbol) (b : ℕ) (bs : List ℕ) → is_blank_byte b ≡ true → IsPrinted ss bs → IsPrinted ss (b ∷ bs)
spaced [] b bs blank p = and_from (is_blank_byte b) (list_all is_blank_byte bs) blank p
spaced (s ∷ ss) b bs blank (gap, own, rest, all, parts, w, p) =
    (b ∷ gap, own, rest, and_from (is_blank_byte b) (list_all is_blank_byte gap) blank all, ap (λ (l : List ℕ). b ∷ l) parts, w, p)

-- ---- the tokens

-- from a place on stand tokens of these symbols, up to the end
pub record AreSymbols (text : List ℕ) (at : ℕ) (ss : List Symbol) : Type 0 where
  pub tokens : List Token
  pub place : ℕ
  pub are : AreTokens text at tokens place
  pub end : length text ≤ place
  pub spell : symbols (lexemes text tokens) ≡ ss

-- blanks up to the end
none_left : (text : List ℕ) (at : ℕ) (bs : List ℕ) → list_all is_blank_byte bs ≡ true → drop at text ≡ bs → AreSymbols text at []
none_left text at bs all h =
    let run : prefix_len is_blank_byte (drop at text) ≡ length bs = ap (prefix_len is_blank_byte) (h ∙ sym (append-nil bs)) ∙ run_is is_blank_byte bs [] all refl in
    record {
      tokens = [];
      place = after_blanks text at;
      are = refl;
      end = omega (arith, run, length-drop at text, ap length h);
      spell = refl;
    }

-- the blanks before a lexeme
gap_passed : (text : List ℕ) (at : ℕ) (gap more : List ℕ) → list_all is_blank_byte gap ≡ true → drop at text ≡ gap ++ more → IsPartedBy is_blank_byte more → after_blanks text at ≡ at + length gap
gap_passed text at gap more all h parted = ap (λ k. at + k) (ap (prefix_len is_blank_byte) h ∙ run_is is_blank_byte gap more all parted)

first_of_rest : (text : List ℕ) (at : ℕ) (more : List ℕ) → drop at text ≡ more → slice_index text at ≡ slice_index more 0
first_of_rest text at more h = ap (λ (k : ℕ). slice_index text k) (sym (add-zero at)) ∙ sym (get_or-drop at text 0 0) ∙ ap (λ (l : List ℕ). slice_index l 0) h

pub printed_symbols : (ss : List Symbol) (bs text : List ℕ) (at : ℕ) → IsPrinted ss bs → drop at text ≡ bs → AreSymbols text at ss
printed_symbols [] bs text at p h = none_left text at bs p h
printed_symbols (s ∷ ss) bs text at (gap, own, rest, all, parts, w, p) h =
    let begin : ℕ = at + length gap in
    let here : drop (at + length gap) text ≡ own ++ rest = left_after text at (length gap) gap (own ++ rest) (h ∙ parts) refl in
    let one = written_is s own rest text (at + length gap) w here in
    let parted : is_blank_byte (slice_index (own ++ rest) 0) ≡ false = rw (← first_of_rest text (at + length gap) (own ++ rest) here) one.unblank in
    let passed = gap_passed text at gap (own ++ rest) all (h ∙ parts) parted in
    let next : drop one.token.stop text ≡ rest = rw one.stop (left_after text (at + length gap) (length own) own rest here refl) in
    let more = printed_symbols ss rest text one.token.stop p next in
    record {
      tokens = one.token ∷ more.tokens;
      place = more.place;
      are = (one.start ∙ sym passed, omega (arith, one.start, one.inside), one.lexeme, more.are);
      end = more.end;
      spell = rw (one.is, more.spell) refl;
    }

-- a text of which the symbols are written is the text of these symbols
pub record IsTextOf (text : List ℕ) (ss : List Symbol) : Type 0 where
  pub tokens : List Token
  pub lexed : AreTokensOf text tokens
  pub spell : symbols (lexemes text tokens) ≡ ss

pub printed_text : (ss : List Symbol) (text : List ℕ) → IsPrinted ss text → length text ≤ 8388608 → IsTextOf text ss
printed_text ss text p short =
    let all = printed_symbols ss text text 0 p refl in
    record { tokens = all.tokens; lexed = (short, all.place, all.are, all.end); spell = all.spell }
