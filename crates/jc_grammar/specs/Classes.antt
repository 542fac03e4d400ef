-- Classes of symbols: what a grammar may ask of one symbol.
use Rattle.std.specs.Prelude.{ℕ, List, [], ◌∷◌, Bool, false, not, ◌||◌, codes}
use Rattle.std.specs.Str.{bytes_eq}
use Rattle.jc_syntax.specs.declared.token.TokenKind.{TokenKind}
use Rattle.jc_syntax.specs.declared.token.TokenKind.TheVariants.{Name, Number}
use Rattle.jc_grammar.specs.Symbols.{Symbol, word, number, symbol_of}
use Rattle.jc_grammar.specs.SymbolTests.{same_kind, has_kind, is_word, is_number_symbol, is_numeral}

-- any symbol of a kind, one word, a word but for these, one number as it is spelled, and a number of digits alone
pub data Class : Type 0 where
  any : TokenKind → Class
  the_word : List ℕ → Class
  other_word : List (List ℕ) → Class
  the_number : List ℕ → Class
  digits : Class

abbrev pub is_in : List ℕ → List (List ℕ) → Bool
is_in w [] = false
is_in w (v ∷ vs) = bytes_eq w v || is_in w vs

-- the symbol is of the class
abbrev pub is_of : Class → Symbol → Bool
is_of (any kind) s = has_kind kind s
is_of (the_word w) s = is_word w s
is_of (other_word ws) (word own) = not (is_in own ws)
is_of (other_word ws) s = false
is_of (the_number n) s = is_number_symbol n s
is_of digits (number own) = is_numeral own
is_of digits s = false

-- ---- which classes have a symbol in common

-- a symbol of the class, where it has one
abbrev pub example_of : Class → Symbol
example_of (any kind) = symbol_of kind [] []
example_of (the_word w) = word w
example_of (other_word ws) = word []
example_of (the_number n) = number n
example_of digits = number (codes "0")

abbrev pub kind_of_class : Class → TokenKind
kind_of_class (any kind) = kind
kind_of_class (the_word w) = Name
kind_of_class (other_word ws) = Name
kind_of_class (the_number n) = Number
kind_of_class digits = Number

-- No symbol is of both. This may be false of two that have none in common, and a grammar is then refused for nothing.
abbrev pub are_apart : Class → Class → Bool
are_apart (the_word w) (the_word v) = not (bytes_eq v w)
are_apart (the_word w) (other_word ws) = is_in w ws
are_apart (other_word ws) (the_word w) = is_in w ws
are_apart (the_number m) (the_number n) = not (bytes_eq n m)
are_apart c d = not (same_kind (kind_of_class c) (kind_of_class d))
