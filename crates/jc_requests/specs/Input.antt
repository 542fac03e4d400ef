-- The requests in the bytes of an input: lines, and behind some of them a text.
use Rattle.std.specs.Prelude.{◌≡◌, ℕ, zero, suc, ◌+◌, ◌-◌, ◌<◌, ◌≤◌, List, [], ◌∷◌, ◌++◌, length, take, Option, Some, None}
use Rattle.std.specs.Io.KnownBytes.{IsAtEnd}
use Rattle.jc_rules.specs.declared.limits.TheConstants.{MAX_TEXT}
use Rattle.jc_session.specs.Lines.{Line, Lacks, whole_line, last_line}
use Rattle.jc_requests.specs.Asked.{Asked, scenario, asked}
use Rattle.jc_requests.specs.declared.input.TheConstants.{MAX_INPUT, MAX_REQUESTS}

-- ---- one request

-- A request as it is read: a line, or the text behind a line that says how long it is.
pub data Turn : Type 0 where
  says : Line → Turn
  brings : List ℕ → Turn

-- of a text that is too long no byte behind the first one too many counts
abbrev pub kept : List ℕ → List ℕ
kept text = take (MAX_TEXT + 1) text

-- how many bytes behind the line are a text, where it says so
abbrev pub size_of : Option Asked → Option ℕ
size_of (Some (scenario n)) = Some n
size_of _ = None

-- The bytes are one request, whole, and `left` is behind them where that is known: a line with its LF, and its text. At
-- the end a line needs no LF, and no byte is left for a text.
pub data IsTurn (left : Option (List ℕ)) : List ℕ → Turn → Type 0 where
  line : (raw : List ℕ)
      → Lacks 10 raw
      → size_of (asked (whole_line raw)) ≡ None
      → IsTurn left (raw ++ 10 ∷ []) (says (whole_line raw))
  text : (raw text : List ℕ)
      → Lacks 10 raw
      → size_of (asked (whole_line raw)) ≡ Some (length text)
      → IsTurn left (raw ++ 10 ∷ text) (brings (kept text))
  line_at_end : (raw : List ℕ) (line : Line)
      → Lacks 10 raw
      → last_line raw ≡ line ∷ []
      → IsAtEnd left
      → size_of (asked line) ≡ None
      → IsTurn left raw (says line)
  text_at_end : (raw : List ℕ) (line : Line)
      → Lacks 10 raw
      → last_line raw ≡ line ∷ []
      → IsAtEnd left
      → size_of (asked line) ≡ Some 0
      → IsTurn left raw (brings [])

-- The bytes begin a request and don't end it: a line without its LF, or a line with a part of its text.
pub data IsPart : List ℕ → Type 0 where
  in_line : (raw : List ℕ) → Lacks 10 raw → IsPart raw
  in_text : (raw part : List ℕ) (n : ℕ)
      → Lacks 10 raw
      → size_of (asked (whole_line raw)) ≡ Some n
      → length part < n
      → IsPart (raw ++ 10 ∷ part)

-- The bytes are a line and bytes of its text, all of them at most.
pub data IsTextPart : List ℕ → Type 0 where
  of_text : (raw part : List ℕ) (n : ℕ)
      → Lacks 10 raw
      → size_of (asked (whole_line raw)) ≡ Some n
      → length part ≤ n
      → IsTextPart (raw ++ 10 ∷ part)

-- The bytes are the last ones of an input that ends within a text.
pub data IsCutShort : List ℕ → Type 0 where
  behind_line : (raw part : List ℕ) (n : ℕ)
      → Lacks 10 raw
      → size_of (asked (whole_line raw)) ≡ Some n
      → length part < n
      → IsCutShort (raw ++ 10 ∷ part)
  at_end : (raw : List ℕ) (line : Line) (n : ℕ)
      → Lacks 10 raw
      → last_line raw ≡ line ∷ []
      → size_of (asked line) ≡ Some n
      → 0 < n
      → IsCutShort raw

-- ---- all requests

-- How the requests end: with the input; within a text, which is a failed read; past a limit.
pub data InputEnd : Type 0 where
  finished : InputEnd
  cut_short : InputEnd
  too_many : InputEnd

-- The requests of the bytes, of which so many bytes and so many requests may be read, and how they end: past a limit
-- where a byte more is there of a request that isn't read whole, or of a request too many.
pub data AreTurns : ℕ → ℕ → List ℕ → List Turn → InputEnd → Type 0 where
  ends : {bytes_left turns_left : ℕ} → AreTurns bytes_left turns_left [] [] finished
  goes_on : {bytes_left turns_left : ℕ} {rest : List ℕ} {turns : List Turn} {end : InputEnd} (read : List ℕ) (turn : Turn)
      → IsTurn (Some rest) read turn
      → length read ≤ bytes_left
      → AreTurns (bytes_left - length read) turns_left rest turns end
      → AreTurns bytes_left (suc turns_left) (read ++ rest) (turn ∷ turns) end
  falls_short : {bytes_left turns_left : ℕ} {bytes : List ℕ}
      → IsCutShort bytes
      → length bytes ≤ bytes_left
      → AreTurns bytes_left (suc turns_left) bytes [] cut_short
  passes_bytes : {turns_left : ℕ} (part : List ℕ) (b : ℕ) (rest : List ℕ)
      → IsPart part
      → AreTurns (length part) (suc turns_left) (part ++ b ∷ rest) [] too_many
  passes_turns : {bytes_left : ℕ} (b : ℕ) (rest : List ℕ) → AreTurns bytes_left zero (b ∷ rest) [] too_many

-- the requests of an input, and how they end
abbrev pub AreDue : List ℕ → List Turn → InputEnd → Type 0
AreDue = AreTurns MAX_INPUT MAX_REQUESTS
