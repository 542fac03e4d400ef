-- What a line of `serve` asks for, by its words. What a session has too is what it means there.
use Rattle.std.specs.Prelude.{ℕ, zero, suc, ◌+◌, ◌==◌, nat_le, nat_lt, Bool, true, false, not, ◌&&◌, ◌||◌, if◌then◌else◌, List, [], ◌∷◌, length, drop, take, position, slice_index, Option, Some, None, option_map, codes}
use Rattle.std.specs.Option.{option_and_then}
use Rattle.std.specs.List.{list_all}
use Rattle.std.specs.Str.{bytes_eq, all_ascii_digits}
use Rattle.std.specs.Str.Parse.{digits_value}
use Rattle.jc_rules.specs.declared.limits.TheConstants.{MAX_EVENTS}
use Rattle.jc_syntax.specs.Bytes.{is_name_start, is_name_byte}
use Rattle.jc_session.specs.Lines.{Line}
use Rattle.jc_session.specs.Requests.{Word, Request, Meaning, nothing, asks, bad, words, after_word, among, number_in, meaning}

-- ---- words

-- the one word that there is
abbrev pub only : List Word → Option Word
only (w ∷ []) = Some w
only _ = None

-- what is behind so many words, and behind the blanks after them
abbrev pub after_words : ℕ → List ℕ → List ℕ
after_words zero line = line
after_words (suc n) line = after_words n (after_word line)

-- ---- numbers

-- `0`, or 1 to 20 digits of which the first isn't `0`
abbrev pub has_seed_form : Word → Bool
has_seed_form w =
    bytes_eq w (codes "0")
    || ((nat_le 1 (length w) && nat_le (length w) 20) && (all_ascii_digits w && not (slice_index w 0 == 48)))

-- a seed has 64 bits
abbrev pub seed_of : ℕ → Option ℕ
seed_of n = if nat_lt n 18446744073709551616 then Some n else None

abbrev pub seed_in : Word → Option ℕ
seed_in w = if has_seed_form w then seed_of (digits_value 10 w) else None

abbrev pub limit_of : Option ℕ → Option ℕ
limit_of (Some n) = if nat_le n MAX_EVENTS then Some n else None
limit_of None = None

-- a number of events, of which there may be so many
abbrev pub limit_in : Word → Option ℕ
limit_in w = limit_of (number_in w)

-- ---- positions and options

-- so many events after position 0, or before it
pub data Position : Type 0 where
  after : ℕ → Position
  before : ℕ → Position

abbrev pub some_before : Option ℕ → Option Position
some_before (Some (suc n)) = Some (before (suc n))
some_before _ = None

-- a number, or `-` and one that isn't 0
abbrev pub position_in : Word → Option Position
position_in w = if slice_index w 0 == 45 then some_before (number_in (drop 1 w)) else option_map after (number_in w)

-- the position of `--at`, where that comes first, and the words behind it
abbrev pub past_at : List Word → Option (Option Position × List Word)
past_at [] = Some (None, [])
past_at (w ∷ []) = if bytes_eq w (codes "--at") then None else Some (None, w ∷ [])
past_at (w ∷ v ∷ ws) =
    if bytes_eq w (codes "--at") then option_map (λ p. (Some p, ws)) (position_in v) else Some (None, w ∷ v ∷ ws)

-- whether the option comes first, and the words behind it
abbrev pub past_option : List ℕ → List Word → Bool × List Word
past_option option [] = (false, [])
past_option option (w ∷ ws) = if bytes_eq w option then (true, ws) else (false, w ∷ ws)

-- whether rules and effects are asked for, and the words behind the options
abbrev pub past_details : List Word → Bool × Bool × List Word
past_details ws =
    let trace = past_option (codes "--trace") ws in
    let effects = past_option (codes "--effects") trace.1 in (trace.0, effects.0, effects.1)

-- ---- requests

-- Words are names of replicas; texts are those of expressions. The flags of `event` and `journal` ask for rules and for
-- effects.
pub data Asked : Type 0 where
  scenario : ℕ → Asked
  places : Asked
  print : Asked
  of_session : Request → Asked
  goto_end : Asked
  back_run : Asked
  break_op : ℕ → Word → Asked
  break_place : Word → List ℕ → Asked
  breaks : Asked
  view : Option Position → Option Word → Asked
  view_place : Option Position → Word → List ℕ → Asked
  state_at : Position → Option Word → Asked
  brief : Option Position → Word → Asked
  eval : Option Position → Word → List ℕ → Asked
  event : Option Position → Bool → Bool → Asked
  journal : Bool → Bool → Option (Position × Position) → Asked
  weave : ℕ → ℕ → Asked

abbrev pub meant : Meaning → Option Asked
meant (asks request) = Some (of_session request)
meant nothing = None
meant bad = None

-- what it means in a session
abbrev pub in_session : List ℕ → Option Asked
in_session line = meant (meaning (Some line))

-- no word is behind
abbrev pub alone : Asked → List Word → Option Asked
alone request [] = Some request
alone request (w ∷ ws) = None

-- ---- what is shown

-- how many words a request at a position has before the name
abbrev pub words_before : Option Position → ℕ
words_before None = 1
words_before (Some p) = 3

abbrev pub viewed : List ℕ → Option Position → List Word → Option Asked
viewed line at [] = Some (view at None)
viewed line at (name ∷ []) = Some (view at (Some name))
viewed line at (name ∷ w ∷ ws) = Some (view_place at name (after_words (words_before at + 1) line))

abbrev pub stated : List ℕ → Option Position → List Word → Option Asked
stated line None ws = in_session line
stated line (Some p) [] = Some (state_at p None)
stated line (Some p) (name ∷ []) = Some (state_at p (Some name))
stated line (Some p) (name ∷ w ∷ ws) = None

abbrev pub briefed : Option Position → List Word → Option Asked
briefed at ws = option_map (brief at) (only ws)

-- where no expression is behind the name, its text is empty
abbrev pub evaluated : List ℕ → Option Position → List Word → Option Asked
evaluated line at [] = None
evaluated line at (name ∷ ws) = Some (eval at name (after_words (words_before at + 1) line))

abbrev pub event_of : Option Position → List Word → Option Asked
event_of at ws = let details = past_details ws in alone (event at details.0 details.1) details.2

abbrev pub pair_of : Option Position → Option Position → Option (Position × Position)
pair_of (Some p) (Some q) = Some (p, q)
pair_of _ _ = None

abbrev pub journal_by : Bool → Bool → List Word → Option Asked
journal_by trace effects [] = Some (journal trace effects None)
journal_by trace effects (v ∷ w ∷ []) =
    option_map (λ p. journal trace effects (Some p)) (pair_of (position_in v) (position_in w))
journal_by trace effects _ = None

abbrev pub journal_of : List Word → Option Asked
journal_of ws = let details = past_details ws in journal_by details.0 details.1 details.2

-- what follows `--at`, where that is there
abbrev pub at_position : (Option Position → List Word → Option Asked) → List Word → Option Asked
at_position f ws = option_and_then (λ p. f p.0 p.1) (past_at ws)

-- ---- breakpoints and schedules

-- a letter or `_`, and behind it letters, digits and `_`
abbrev pub is_name : Word → Bool
is_name w = (nat_le 1 (length w) && is_name_start (slice_index w 0)) && list_all is_name_byte w

abbrev pub op_by : Option ℕ → Word → Option Asked
op_by (Some n) name = if is_name name then Some (break_op n name) else None
op_by None name = None

-- an operation's identifier: its counter, `@`, and the name of its replica
abbrev pub op_in : Word → Option Asked
op_in w = option_and_then (λ at. op_by (number_in (take at w)) (drop (at + 1) w)) (position (λ b. b == 64) w)

abbrev pub break_of : List ℕ → List Word → Option Asked
break_of line [] = in_session line
break_of line (v ∷ []) = in_session line
break_of line (v ∷ w ∷ ws) =
    if bytes_eq v (codes "op") then option_and_then op_in (only (w ∷ ws))
    else (if bytes_eq v (codes "place") then Some (break_place w (after_words 3 line)) else in_session line)

abbrev pub weave_by : Option ℕ → Option ℕ → Option Asked
weave_by (Some seed) (Some limit) = Some (weave seed limit)
weave_by _ _ = None

abbrev pub weave_of : List Word → Option Asked
weave_of (v ∷ w ∷ []) = weave_by (seed_in v) (limit_in w)
weave_of _ = None

-- ---- lines

abbrev pub scenario_of : List Word → Option Asked
scenario_of ws = option_map scenario (option_and_then number_in (only ws))

-- one word is behind, and it is this one; else what the line means in a session
abbrev pub exactly : List ℕ → List ℕ → Asked → List Word → Option Asked
exactly line word request (w ∷ []) = if bytes_eq w word then Some request else in_session line
exactly line word request _ = in_session line

-- lines that show something, by their first word and the words behind it
abbrev pub shows : List ℕ → List (Word × (List Word → Option Asked))
shows line =
    (codes "view", at_position (viewed line)) ∷ (codes "state", at_position (stated line))
    ∷ (codes "brief", at_position briefed) ∷ (codes "eval", at_position (evaluated line))
    ∷ (codes "event", at_position event_of) ∷ (codes "journal", journal_of) ∷ []

-- the same, and all other lines that a session doesn't have, or means otherwise
abbrev pub own : List ℕ → List (Word × (List Word → Option Asked))
own line =
    (codes "scenario", scenario_of) ∷ (codes "places", alone places) ∷ (codes "print", alone print)
    ∷ (codes "breaks", alone breaks) ∷ (codes "goto", exactly line (codes "end") goto_end)
    ∷ (codes "back", exactly line (codes "run") back_run) ∷ (codes "break", break_of line)
    ∷ (codes "weave", weave_of) ∷ shows line

abbrev pub or_by_session : List ℕ → Option (List Word → Option Asked) → List Word → Option Asked
or_by_session line (Some f) ws = f ws
or_by_session line None ws = in_session line

abbrev pub asked_by : List ℕ → List Word → Option Asked
asked_by line [] = None
asked_by line (v ∷ ws) = or_by_session line (among v (own line)) ws

-- A line that is too long, or that has a byte of 128 or more, or that is none of these, asks for nothing and is refused.
unfoldable pub asked : Line → Option Asked
asked None = None
asked (Some line) = if list_all (λ b. nat_lt b 128) line then asked_by line (words line) else None
