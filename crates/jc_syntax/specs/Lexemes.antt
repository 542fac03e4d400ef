-- The tokens of a text, or its lexical fault, by its bytes. `lex` returns these, and the grammar is defined on them.
use Rattle.std.specs.Prelude.{◌≡◌, ℕ, ◌+◌, ◌-◌, ◌<◌, ◌≤◌, ◌⊎◌, List, [], ◌∷◌, ◌&&◌, ◌==◌, if◌then◌else◌, length, drop, slice_index, slice_range, Option, Some, None}
use Rattle.std.specs.List.{prefix_len}
use Rattle.jc_rules.specs.declared.limits.TheConstants.{MAX_NAME, MAX_STRING, MAX_TEXT}
use Rattle.jc_syntax.specs.declared.token.Token.{Token}
use Rattle.jc_syntax.specs.declared.token.TokenKind.{TokenKind}
use Rattle.jc_syntax.specs.declared.token.TokenKind.TheVariants.{Name, Number, Str, Dot, ParenL, ParenR, BraceL, BraceR, BracketL, BracketR, Comma, Semi, Assign, Equals}
use Rattle.jc_syntax.specs.declared.fault.LexFault.{LexFault}
use Rattle.jc_syntax.specs.declared.fault.LexFault.TheVariants.{BadByte, BadNumber, TextTooLong}
use Rattle.jc_syntax.specs.Bytes.{is_blank_byte, is_name_start, is_name_byte, is_number_start, is_number_byte}
use Rattle.jc_syntax.specs.Numbers.{IsNumber}
use Rattle.jc_syntax.specs.Strings.{IsString, IsStringFault, spelled_from}

-- the offset after the blanks from an offset on
abbrev pub after_blanks : List ℕ → ℕ → ℕ
after_blanks text at = at + prefix_len is_blank_byte (drop at text)

abbrev pub after_name : List ℕ → ℕ → ℕ
after_name text at = at + prefix_len is_name_byte (drop at text)

-- the offset after the longest run of bytes that a number may have
abbrev pub after_number_run : List ℕ → ℕ → ℕ
after_number_run text at = at + prefix_len is_number_byte (drop at text)

-- the kind of a token, by its first two bytes: 34 is `"`, 46 `.`, 40 `(`, 41 `)`, 123 `{`, 125 `}`, 91 `[`, 93 `]`, 44
-- `,`, 59 `;`, 61 `=` and 58 `:`
abbrev pub kind_of_byte : ℕ → ℕ → Option TokenKind
kind_of_byte b next =
    if is_name_start b then Some Name
    else (if is_number_start b then Some Number
    else (if b == 34 then Some Str
    else (if b == 46 then Some Dot
    else (if b == 40 then Some ParenL
    else (if b == 41 then Some ParenR
    else (if b == 123 then Some BraceL
    else (if b == 125 then Some BraceR
    else (if b == 91 then Some BracketL
    else (if b == 93 then Some BracketR
    else (if b == 44 then Some Comma
    else (if b == 59 then Some Semi
    else (if b == 61 then Some Equals
    else (if b == 58 && next == 61 then Some Assign
    else None)))))))))))))

abbrev pub kind_at : List ℕ → ℕ → Option TokenKind
kind_at text at = kind_of_byte (slice_index text at) (slice_index text (at + 1))

-- the length of a mark: a token that has one form
abbrev pub mark_len : TokenKind → ℕ
mark_len Assign = 2
mark_len kind = 1

-- the end of a token of a kind that begins at `at`, and its size: its length, or for a string that of what it spells
abbrev pub LexemeEndsAt : TokenKind → List ℕ → ℕ → ℕ → ℕ → Type 0
LexemeEndsAt Name text at stop size = (stop ≡ after_name text at) × (stop ≡ at + size)
LexemeEndsAt Number text at stop size =
    (stop ≡ after_number_run text at) × (stop ≡ at + size) × IsNumber (slice_range text at stop)
LexemeEndsAt Str text at stop size = (content : List ℕ) × IsString text at stop content × (size ≡ length content)
LexemeEndsAt kind text at stop size = (size ≡ mark_len kind) × (stop ≡ at + size)

-- the greatest size of a token; no mark comes near it
abbrev pub token_limit : TokenKind → ℕ
token_limit Name = MAX_NAME
token_limit kind = MAX_STRING

-- a token of the text, within its limit
pub record IsLexeme (text : List ℕ) (t : Token) : Type 0 where
  pub size : ℕ
  pub begins : kind_at text t.start ≡ Some t.kind
  pub ends : LexemeEndsAt t.kind text t.start t.stop size
  pub within : size ≤ token_limit t.kind

-- the fault of a token of this kind, or of a byte that begins none
abbrev pub IsMalformed : Option TokenKind → List ℕ → ℕ → LexFault → Type 0
IsMalformed None text at fault = fault ≡ BadByte at
IsMalformed (Some Number) text at fault =
    (¬ IsNumber (slice_range text at (after_number_run text at))) × (fault ≡ BadNumber at)
IsMalformed (Some Str) text at fault = IsStringFault text at fault
IsMalformed (Some kind) text at fault = ⊥

-- at an offset is a well-formed token over its limit
pub record IsTooLong (text : List ℕ) (at : ℕ) (fault : LexFault) : Type 0 where
  pub kind : TokenKind
  pub stop : ℕ
  pub size : ℕ
  pub begins : kind_at text at ≡ Some kind
  pub ends : LexemeEndsAt kind text at stop size
  pub beyond : token_limit kind < size
  pub is : fault ≡ TextTooLong at

-- the fault at an offset
abbrev pub IsLexFault : List ℕ → ℕ → LexFault → Type 0
IsLexFault text at fault = IsMalformed (kind_at text at) text at fault ⊎ IsTooLong text at fault

-- from an offset on are blanks and these tokens, up to another offset: the text's end, or a byte that is no blank
abbrev pub AreTokens : List ℕ → ℕ → List Token → ℕ → Type 0
AreTokens text at [] place = place ≡ after_blanks text at
AreTokens text at (t ∷ ts) place =
    (t.start ≡ after_blanks text at) × (t.start < length text) × IsLexeme text t × AreTokens text t.stop ts place

-- the tokens of a text
abbrev pub AreTokensOf : List ℕ → List Token → Type 0
AreTokensOf text ts =
    (length text ≤ MAX_TEXT) × (place : ℕ) × AreTokens text 0 ts place × (length text ≤ place)

-- the fault of a text: that it is too long, else the fault after some of its tokens
abbrev pub IsFaultOf : List ℕ → LexFault → Type 0
IsFaultOf text fault =
    ((MAX_TEXT < length text) × (fault ≡ TextTooLong MAX_TEXT))
    ⊎ ((length text ≤ MAX_TEXT)
    × (ts : List Token) × (place : ℕ)
    × AreTokens text 0 ts place
    × (place < length text)
    × IsLexFault text place fault)

-- a token of a text within the limit
abbrev pub IsTokenOf : List ℕ → Token → Type 0
IsTokenOf text t = (length text ≤ MAX_TEXT) × IsLexeme text t

abbrev pub IsStringToken : List ℕ → Token → Type 0
IsStringToken text t = (t.kind ≡ Str) × IsTokenOf text t

-- the bytes of a token
abbrev pub token_bytes : List ℕ → Token → List ℕ
token_bytes text t = slice_range text t.start t.stop

-- what a string token spells
unfoldable pub token_content : List ℕ → Token → List ℕ
token_content text t = spelled_from (t.stop - t.start) text (t.start + 1)

-- ---- ends

-- the end of what begins like a token of a kind: of a number's run also where that is no number
abbrev pub RunEndsAt : TokenKind → List ℕ → ℕ → ℕ → Type 0
RunEndsAt Number text at stop = stop ≡ after_number_run text at
RunEndsAt kind text at stop = (size : ℕ) × LexemeEndsAt kind text at stop size

-- A token of a text within the limit begins at the one offset and ends at the other, be it within its own limit or not.
pub record IsTokenEnd (text : List ℕ) (at stop : ℕ) : Type 0 where
  pub room : length text ≤ MAX_TEXT
  pub kind : TokenKind
  pub begins : kind_at text at ≡ Some kind
  pub ends : RunEndsAt kind text at stop
