-- What is asked of one symbol: its kind, its value, whether it is a word or a number, and whether a word is reserved.
use Rattle.std.specs.Prelude.{ℕ, List, [], length, codes, Bool, false, ◌&&◌, ◌||◌, not, ◌==◌}
use Rattle.std.specs.Str.{bytes_eq, all_ascii_digits}
use Rattle.std.specs.Str.Parse.{digits_value}
use Rattle.jc_syntax.specs.declared.token.TokenKind.{TokenKind}
use Rattle.jc_syntax.specs.declared.token.TokenKind.TheVariants.{Name, Number, Str, Dot, ParenL, ParenR, BraceL, BraceR, BracketL, BracketR, Comma, Semi, Assign, Equals}
use Rattle.jc_grammar.specs.Symbols.{Symbol, word, number, string, dot, open_paren, close_paren, open_brace, close_brace, open_bracket, close_bracket, comma, semicolon, assign, equals}

-- ---- kinds

abbrev pub kind_of_symbol : Symbol → TokenKind
kind_of_symbol (word bytes) = Name
kind_of_symbol (number bytes) = Number
kind_of_symbol (string content) = Str
kind_of_symbol dot = Dot
kind_of_symbol open_paren = ParenL
kind_of_symbol close_paren = ParenR
kind_of_symbol open_brace = BraceL
kind_of_symbol close_brace = BraceR
kind_of_symbol open_bracket = BracketL
kind_of_symbol close_bracket = BracketR
kind_of_symbol comma = Comma
kind_of_symbol semicolon = Semi
kind_of_symbol assign = Assign
kind_of_symbol equals = Equals

abbrev pub number_of_kind : TokenKind → ℕ
number_of_kind Name = 0
number_of_kind Number = 1
number_of_kind Str = 2
number_of_kind Dot = 3
number_of_kind ParenL = 4
number_of_kind ParenR = 5
number_of_kind BraceL = 6
number_of_kind BraceR = 7
number_of_kind BracketL = 8
number_of_kind BracketR = 9
number_of_kind Comma = 10
number_of_kind Semi = 11
number_of_kind Assign = 12
number_of_kind Equals = 13

abbrev pub same_kind : TokenKind → TokenKind → Bool
same_kind a b = number_of_kind a == number_of_kind b

abbrev pub has_kind : TokenKind → Symbol → Bool
has_kind kind s = same_kind (kind_of_symbol s) kind

-- the bytes of a word or a number, or what a string spells
abbrev pub value_of_symbol : Symbol → List ℕ
value_of_symbol (word bytes) = bytes
value_of_symbol (number bytes) = bytes
value_of_symbol (string content) = content
value_of_symbol s = []

abbrev pub is_word : List ℕ → Symbol → Bool
is_word bytes (word own) = bytes_eq own bytes
is_word bytes s = false

abbrev pub is_number_symbol : List ℕ → Symbol → Bool
is_number_symbol bytes (number own) = bytes_eq own bytes
is_number_symbol bytes s = false

-- ---- numbers

-- one digit or more, and nothing else
abbrev pub is_numeral : List ℕ → Bool
is_numeral bs = not (length bs == 0) && all_ascii_digits bs

-- the value of digits
abbrev pub numeral_value : List ℕ → ℕ
numeral_value bs = digits_value 10 bs

-- ---- reserved words

abbrev pub is_reserved : List ℕ → Bool
is_reserved name =
    bytes_eq name (codes "let")
    || (bytes_eq name (codes "doc")
    || (bytes_eq name (codes "yield")
    || (bytes_eq name (codes "get")
    || (bytes_eq name (codes "idx")
    || (bytes_eq name (codes "keys")
    || (bytes_eq name (codes "values")
    || (bytes_eq name (codes "insertAfter")
    || (bytes_eq name (codes "delete")
    || (bytes_eq name (codes "true")
    || (bytes_eq name (codes "false")
    || bytes_eq name (codes "null")))))))))))

abbrev pub reserved : Symbol → Bool
reserved (word name) = is_reserved name
reserved s = false

-- a reserved word that is no keyword at a command's start
abbrev pub is_misused : Symbol → Bool
is_misused s =
    reserved s && (not (is_word (codes "let") s) && (not (is_word (codes "yield") s) && not (is_word (codes "doc") s)))
