-- About `ReaderState`: tests on the symbol of a token.
use Rattle.std.proofs.Common.{◌≡◌, ℕ, ◌&&◌, List, refl}
use Rattle.std.specs.Str.{bytes_eq}
use Rattle.jc_syntax.specs.declared.token.TokenKind.{TokenKind}
use Rattle.jc_syntax.specs.declared.token.TokenKind.TheVariants.{Name, Number}
use Rattle.jc_grammar.specs.Symbols.{symbol_of}
use Rattle.jc_grammar.specs.SymbolTests.{is_reserved}
use Rattle.jc_parser.specs.ReaderState.{kind_of_symbol, same_kind, is_word, is_number_symbol, reserved}

pub kind_again : (k : TokenKind) (b c : List ℕ) → kind_of_symbol (symbol_of k b c) ≡ k
kind_again Name b c = refl
kind_again _ b c = refl

pub word_test : (k : TokenKind) (b c w : List ℕ) → is_word w (symbol_of k b c) ≡ (same_kind k Name && bytes_eq b w)
word_test Name b c w = refl
word_test k b c w = refl

pub number_test : (k : TokenKind) (b c w : List ℕ) → is_number_symbol w (symbol_of k b c) ≡ (same_kind k Number && bytes_eq b w)
number_test Number b c w = refl
number_test k b c w = refl

pub reserved_test : (k : TokenKind) (b c : List ℕ) → reserved (symbol_of k b c) ≡ (same_kind k Name && is_reserved b)
reserved_test Name b c = refl
reserved_test k b c = refl

pub ruleset kinds = (kind_again, word_test, number_test, reserved_test)
