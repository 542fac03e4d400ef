-- What a line of a session asks for, by its words: the answers of lines are defined by it.
use Rattle.std.specs.Prelude.{ℕ, ◌==◌, nat_le, nat_lt, Bool, not, ◌&&◌, ◌||◌, if◌then◌else◌, List, [], ◌∷◌, length, drop, filter, slice_index, Option, Some, None, option_map, codes}
use Rattle.std.specs.Option.{option_and_then}
use Rattle.std.specs.List.{slice_split, prefix_len, list_all}
use Rattle.std.specs.Str.{bytes_eq, all_ascii_digits}
use Rattle.std.specs.Str.Parse.{digits_value}
use Rattle.jc_session.specs.Lines.{Line}

abbrev pub Word : Type 0
Word = List ℕ

-- ---- words and numbers

-- a space or a tab
abbrev pub is_blank_char : ℕ → Bool
is_blank_char b = b == 32 || b == 9

-- the parts between blanks that aren't empty
abbrev pub words : List ℕ → List Word
words line = filter (λ w. not (length w == 0)) (slice_split is_blank_char line)

-- the bytes from the first one on that fails the test
abbrev pub past : (ℕ → Bool) → List ℕ → List ℕ
past p bytes = drop (prefix_len p bytes) bytes

-- what follows the first word and the blanks after it
abbrev pub after_word : List ℕ → List ℕ
after_word line = past is_blank_char (past (λ b. not (is_blank_char b)) (past is_blank_char line))

-- `0`, or 1 to 10 digits of which the first isn't `0`
abbrev pub is_number_word : Word → Bool
is_number_word w =
    bytes_eq w (codes "0")
    || ((nat_le 1 (length w) && nat_le (length w) 10) && (all_ascii_digits w && not (slice_index w 0 == 48)))

abbrev pub number_in : Word → Option ℕ
number_in w = if is_number_word w then Some (digits_value 10 w) else None

-- ---- requests

-- Numbers are those of events, positions and breakpoints; words are a rule's or a replica's name. `act` has the text
-- of an event.
pub data Request : Type 0 where
  step : ℕ → Request
  back : ℕ → Request
  goto : ℕ → Request
  act : List ℕ → Request
  run : Request
  break_at : ℕ → Request
  break_rule : Word → Request
  break_replica : Word → Request
  unbreak : ℕ → Request
  state : Request
  state_of : Word → Request
  trace : Request
  enabled : Request
  schedule : Request
  position : Request
  compare : Word → Word → Request
  quit : Request

-- the entry of the word
abbrev pub among : {X : Type 0} → Word → List (Word × X) → Option X
among w [] = None
among w (e ∷ es) = if bytes_eq w e.0 then Some e.1 else among w es

-- lines of one word
abbrev pub single_words : List (Word × Request)
single_words =
    (codes "step", step 1) ∷ (codes "back", back 1) ∷ (codes "run", run)
    ∷ (codes "state", state) ∷ (codes "trace", trace) ∷ (codes "enabled", enabled)
    ∷ (codes "schedule", schedule) ∷ (codes "where", position) ∷ (codes "quit", quit) ∷ []

-- a word that must be a number
abbrev pub request_with_number : (ℕ → Request) → Word → Option Request
request_with_number f w = option_map f (number_in w)

-- lines of two words, by the first one
abbrev pub of_two : List (Word × (Word → Option Request))
of_two =
    (codes "step", request_with_number step) ∷ (codes "back", request_with_number back)
    ∷ (codes "goto", request_with_number goto)
    ∷ (codes "unbreak", request_with_number unbreak) ∷ (codes "state", λ w. Some (state_of w)) ∷ []

-- lines that set a breakpoint, by the second word
abbrev pub of_break : List (Word × (Word → Option Request))
of_break =
    (codes "at", request_with_number break_at) ∷ (codes "rule", λ w. Some (break_rule w))
    ∷ (codes "replica", λ w. Some (break_replica w)) ∷ []

-- lines of three words, by the first one
abbrev pub of_three : List (Word × (Word → Word → Option Request))
of_three =
    (codes "break", λ w x. option_and_then (λ f. f x) (among w of_break))
    ∷ (codes "compare", λ w x. Some (compare w x)) ∷ []

abbrev pub asked_by : List Word → Option Request
asked_by (v ∷ []) = among v single_words
asked_by (v ∷ w ∷ []) = option_and_then (λ f. f w) (among v of_two)
asked_by (v ∷ w ∷ x ∷ []) = option_and_then (λ f. f w x) (among v of_three)
asked_by _ = None

-- ---- lines

-- A line has no word, or asks for something, or is none of the lines that there are.
pub data Meaning : Type 0 where
  nothing : Meaning
  asks : Request → Meaning
  bad : Meaning

abbrev pub meant : Option Request → Meaning
meant (Some request) = asks request
meant None = bad

abbrev pub meaning_of_words : List ℕ → List Word → Meaning
meaning_of_words line [] = nothing
meaning_of_words line (v ∷ ws) =
    if bytes_eq v (codes "act") then asks (act (after_word line)) else meant (asked_by (v ∷ ws))

-- a line that is too long, or that has a byte of 128 or more, is none of them
unfoldable pub meaning : Line → Meaning
meaning None = bad
meaning (Some line) =
    if list_all (λ b. nat_lt b 128) line then meaning_of_words line (words line) else bad
