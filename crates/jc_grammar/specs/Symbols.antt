-- Tokens as a grammar sees them: a symbol, and its offset.
use Rattle.std.specs.Prelude.{ℕ, List, [], ◌∷◌, map}
use Rattle.jc_syntax.specs.declared.token.Token.{Token}
use Rattle.jc_syntax.specs.declared.token.TokenKind.{TokenKind}
use Rattle.jc_syntax.specs.declared.token.TokenKind.TheVariants.{Name, Number, Str, Dot, ParenL, ParenR, BraceL, BraceR, BracketL, BracketR, Comma, Semi, Assign, Equals}
use Rattle.jc_syntax.specs.Lexemes.{token_bytes, token_content}

-- a word or a number has its bytes, a string has what it spells
pub data Symbol : Type 0 where
  word : List ℕ → Symbol
  number : List ℕ → Symbol
  string : List ℕ → Symbol
  dot : Symbol
  open_paren : Symbol
  close_paren : Symbol
  open_brace : Symbol
  close_brace : Symbol
  open_bracket : Symbol
  close_bracket : Symbol
  comma : Symbol
  semicolon : Symbol
  assign : Symbol
  equals : Symbol

-- the symbol of a token of a kind, with its bytes and what it spells if it is a string
abbrev pub symbol_of : TokenKind → List ℕ → List ℕ → Symbol
symbol_of Name bytes content = word bytes
symbol_of Number bytes content = number bytes
symbol_of Str bytes content = string content
symbol_of Dot bytes content = dot
symbol_of ParenL bytes content = open_paren
symbol_of ParenR bytes content = close_paren
symbol_of BraceL bytes content = open_brace
symbol_of BraceR bytes content = close_brace
symbol_of BracketL bytes content = open_bracket
symbol_of BracketR bytes content = close_bracket
symbol_of Comma bytes content = comma
symbol_of Semi bytes content = semicolon
symbol_of Assign bytes content = assign
symbol_of Equals bytes content = equals

-- a symbol, and its offset in the text
pub record Lexeme : Type 0 where
  pub place : ℕ
  pub symbol : Symbol

abbrev pub lexeme : List ℕ → Token → Lexeme
lexeme text t = record { place = t.start; symbol = symbol_of t.kind (token_bytes text t) (token_content text t) }

abbrev pub lexemes : List ℕ → List Token → List Lexeme
lexemes text ts = map (lexeme text) ts

abbrev pub symbols : List Lexeme → List Symbol
symbols ls = map (λ l. l.symbol) ls

-- the offset of the next of these lexemes, or that of the text's end
abbrev pub place_at : ℕ → List Lexeme → ℕ
place_at stop [] = stop
place_at stop (x ∷ xs) = x.place
