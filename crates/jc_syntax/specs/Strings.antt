-- String literals (RFC 8259, section 7), by the offsets of their bytes, for `Lexemes`. Past its end a text has bytes 0.
-- 34 is the quote, 92 the backslash.
use Rattle.std.specs.Prelude.{◌≡◌, ◌≢◌, ℕ, zero, suc, ◌+◌, ◌-◌, ◌*◌, ◌<◌, ◌≤◌, List, [], ◌∷◌, ◌++◌, Bool, not, ◌&&◌, ◌==◌, nat_lt, nat_le, if◌then◌else◌, length, drop, slice_index, flat_map, Option, Some, None, Result, Ok, Err, ◌⊎◌}
use Rattle.std.specs.List.{prefix_len}
use Rattle.std.specs.Char.{digit_value, encode_utf8}
use Rattle.jc_syntax.specs.declared.fault.LexFault.{LexFault}
use Rattle.jc_syntax.specs.declared.fault.LexFault.TheVariants.{BadByte, OpenString, BadEscape, LoneSurrogate}
use Rattle.jc_syntax.specs.declared.piece.Piece.{Piece}
use Rattle.jc_syntax.specs.declared.piece.Piece.TheVariants.{Byte, Escape}

-- ---- pieces: a byte that spells itself, or an escape

-- the number of bytes that a piece takes in the text
abbrev pub piece_len : Piece → ℕ
piece_len (Byte b) = 1
piece_len (Escape len character) = len

-- the bytes that a piece spells
abbrev pub piece_bytes : Piece → List ℕ
piece_bytes (Byte b) = b ∷ []
piece_bytes (Escape len character) = encode_utf8 character

abbrev pub spelled : List Piece → List ℕ
spelled ps = flat_map piece_bytes ps

-- the value of a hexadecimal digit
abbrev pub hex_digit : ℕ → Option ℕ
hex_digit b = if nat_lt (digit_value b) 16 then Some (digit_value b) else None

abbrev pub of_digits : Option ℕ → Option ℕ → Option ℕ → Option ℕ → Option ℕ
of_digits (Some a) (Some b) (Some c) (Some d) = Some (a * 4096 + b * 256 + c * 16 + d)
of_digits a b c d = None

-- the number that the four hexadecimal digits at an offset spell
abbrev pub code_unit : List ℕ → ℕ → Option ℕ
code_unit text at =
    of_digits
    (hex_digit (slice_index text at))
    (hex_digit (slice_index text (at + 1)))
    (hex_digit (slice_index text (at + 2)))
    (hex_digit (slice_index text (at + 3)))

-- the number that an escape `\u` at an offset spells
abbrev pub unit_escape : List ℕ → ℕ → Option ℕ
unit_escape text at =
    if slice_index text at == 92 && slice_index text (at + 1) == 117 then code_unit text (at + 2) else None

-- the character that a byte after a backslash spells: `"`, `\`, `/`, `b`, `f`, `n`, `r`, `t`
abbrev pub short_escape : ℕ → Option ℕ
short_escape b =
    if b == 34 then Some 34
    else (if b == 92 then Some 92
    else (if b == 47 then Some 47
    else (if b == 98 then Some 8
    else (if b == 102 then Some 12
    else (if b == 110 then Some 10
    else (if b == 114 then Some 13
    else (if b == 116 then Some 9
    else None)))))))

abbrev pub is_high : ℕ → Bool
is_high unit = nat_le 0xD800 unit && nat_lt unit 0xDC00

abbrev pub is_low : ℕ → Bool
is_low unit = nat_le 0xDC00 unit && nat_lt unit 0xE000

-- the character that a high and a low surrogate spell together
abbrev pub paired : ℕ → ℕ → ℕ
paired high low = 0x10000 + (high - 0xD800) * 0x400 + (low - 0xDC00)

-- the escape of a low surrogate must follow a high one
abbrev pub pair_at : ℕ → ℕ → Option ℕ → Result Piece LexFault
pair_at at high None = Err (LoneSurrogate at)
pair_at at high (Some low) = if is_low low then Ok (Escape 12 (paired high low)) else Err (LoneSurrogate at)

abbrev pub unit_at : List ℕ → ℕ → Option ℕ → Result Piece LexFault
unit_at text at None = Err (BadEscape at)
unit_at text at (Some unit) =
    if is_high unit then pair_at at unit (unit_escape text (at + 6))
    else (if is_low unit then Err (LoneSurrogate at)
    else Ok (Escape 6 unit))

abbrev pub short_or_unit : List ℕ → ℕ → Option ℕ → Result Piece LexFault
short_or_unit text at (Some character) = Ok (Escape 2 character)
short_or_unit text at None = unit_at text at (unit_escape text at)

unfoldable pub escape_at : List ℕ → ℕ → Result Piece LexFault
escape_at text at = short_or_unit text at (short_escape (slice_index text (at + 1)))

-- the piece at an offset, or its fault
unfoldable pub piece_at : List ℕ → ℕ → Result Piece LexFault
piece_at text at =
    if nat_lt (slice_index text at) 32 then Err (BadByte at)
    else (if slice_index text at == 92 then escape_at text at
    else Ok (Byte (slice_index text at)))

-- ---- literals

-- from an offset up to another are these pieces, with no quote among them
abbrev pub ArePieces : List ℕ → ℕ → List Piece → ℕ → Type 0
ArePieces text at [] stop = at ≡ stop
ArePieces text at (p ∷ ps) stop =
    (at < length text)
    × (slice_index text at ≢ 34)
    × (piece_at text at ≡ Ok p)
    × ArePieces text (at + piece_len p) ps stop

-- a string literal from the quote at `quote` up to `stop`, which spells `content`
pub record IsString (text : List ℕ) (quote stop : ℕ) (content : List ℕ) : Type 0 where
  pub pieces : List Piece
  pub close : ℕ
  pub between : ArePieces text (quote + 1) pieces close
  pub inside : close < length text
  pub closed : slice_index text close ≡ 34
  pub ends : stop ≡ close + 1
  pub spells : content ≡ spelled pieces

-- what stops the pieces of a string that begins at `quote`: the fault at an offset, or the text's end
abbrev pub StopsString : List ℕ → ℕ → ℕ → LexFault → Type 0
StopsString text quote at fault =
    ((at < length text) × (slice_index text at ≢ 34) × (piece_at text at ≡ Err fault))
    ⊎ ((length text ≤ at) × (fault ≡ OpenString quote))

-- the first fault from the left of what begins like a string at `quote`
pub record IsStringFault (text : List ℕ) (quote : ℕ) (fault : LexFault) : Type 0 where
  pub pieces : List Piece
  pub place : ℕ
  pub between : ArePieces text (quote + 1) pieces place
  pub stops : StopsString text quote place fault

abbrev pub spelled_by : Result Piece LexFault → List ℕ
spelled_by (Ok p) = piece_bytes p
spelled_by (Err fault) = []

abbrev pub step_of : Result Piece LexFault → ℕ
step_of (Ok p) = piece_len p
step_of (Err fault) = 0

-- what `count` pieces from an offset on spell, or fewer where a quote comes first
unfoldable pub spelled_from : ℕ → List ℕ → ℕ → List ℕ
spelled_from zero text at = []
spelled_from (suc count) text at =
    if slice_index text at == 34 then []
    else spelled_by (piece_at text at) ++ spelled_from count text (at + step_of (piece_at text at))

-- ---- words of the decoding functions, by which no literal is defined

-- the length and the character of a piece that is an escape
abbrev pub escape_of : Result Piece LexFault → Option (ℕ × ℕ)
escape_of (Ok (Escape len character)) = Some (len, character)
escape_of (Ok (Byte b)) = None
escape_of (Err fault) = None

-- a byte that neither ends a string nor begins an escape
abbrev pub is_plain_byte : ℕ → Bool
is_plain_byte b = not (b == 34) && not (b == 92)

abbrev pub after_plain : List ℕ → ℕ → ℕ
after_plain text at = at + prefix_len is_plain_byte (drop at text)
