-- About `Canon`: symbols printed before other symbols.
use Rattle.std.proofs.Common.{◌≡◌, ℕ, List, [], ◌∷◌, ◌++◌, Bool, true, ap, ◌∙◌, append_assoc}
use Rattle.std.specs.List.{list_all}
use Rattle.std.proofs.lemmas.Bool.{and_parts}
use Rattle.jc_syntax.specs.Bytes.{is_blank_byte, is_name_byte, is_number_byte}
use Rattle.jc_grammar.specs.Symbols.{Symbol, word, number, string, dot, open_paren, close_paren, open_brace, close_brace, open_bracket, close_bracket, comma, semicolon, assign, equals}
use Rattle.jc_printer.proofs.WrittenSymbolsLemmas.{IsPartedBy, IsWritten}
use Rattle.jc_printer.proofs.PrintedSymbolsLemmas.{IsPrinted, spaced}
use Rattle.jc_printer.proofs.CanonTreesLemmas.{number_parts}

-- ---- symbols before others

-- what follows nothing is parted too, if the rest is
parted : (p : ℕ → Bool) (own rest : List ℕ) → IsPartedBy p own → IsPartedBy p rest → IsPartedBy p (own ++ rest)
parted p [] rest before after = after
parted p (b ∷ own) rest before after = before

written_before : (s : Symbol) (own rest more : List ℕ) → IsPartedBy is_number_byte more → IsWritten s own rest → IsWritten s own (rest ++ more)
written_before (word name) own rest more h w = (w.0, w.1, parted is_name_byte rest more w.2 (number_parts more h))
written_before (number digits) own rest more h w = (w.0, w.1, parted is_number_byte rest more w.2 h)
written_before (string content) own rest more h w = w
written_before dot own rest more h w = w
written_before open_paren own rest more h w = w
written_before close_paren own rest more h w = w
written_before open_brace own rest more h w = w
written_before close_brace own rest more h w = w
written_before open_bracket own rest more h w = w
written_before close_bracket own rest more h w = w
written_before comma own rest more h w = w
written_before semicolon own rest more h w = w
written_before assign own rest more h w = w
written_before equals own rest more h w = w

blanks_before : (ss : List Symbol) (gap bs : List ℕ) → list_all is_blank_byte gap ≡ true → IsPrinted ss bs → IsPrinted ss (gap ++ bs)
blanks_before ss [] bs blank p = p
blanks_before ss (b ∷ gap) bs blank p =
    let parts = and_parts (is_blank_byte b) (list_all is_blank_byte gap) blank in
    spaced ss b (gap ++ bs) parts.0 (blanks_before ss gap bs parts.1 p)

pub joined : (ss after : List Symbol) (bs rest : List ℕ) → IsPartedBy is_number_byte rest → IsPrinted ss bs → IsPrinted after rest → IsPrinted (ss ++ after) (bs ++ rest)
joined [] after bs rest h p q = blanks_before after bs rest p q
joined (s ∷ ss) after bs rest h (gap, own, left, blank, is, w, p) q = (
  gap,
  own,
  left ++ rest,
  blank,
  ap (λ (l : List ℕ). l ++ rest) is ∙ append_assoc gap (own ++ left) rest ∙ ap (λ (l : List ℕ). gap ++ l) (append_assoc own left rest),
  written_before s own left rest h w,
  joined ss after left rest h p q,
)
