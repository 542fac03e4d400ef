-- The turns that values in memory represent, and the line that is kept, for the clauses of `Input`.
use Rattle.std.specs.Prelude.{◌≡◌, ℕ, ◌+◌, List, length, Bool, true, false, Option, Some, None, Result, Ok}
use Rattle.std.specs.Io.KnownBytes.{Consumes}
use Rattle.jc_io.specs.declared.io.ReadFault.{ReadFault}
use Rattle.jc_session.specs.Lines.{Line, whole_line, is_within_limit}
use Rattle.jc_requests.specs.declared.turn.Turn.{Turn as AnyTurn}
use Rattle.jc_requests.specs.declared.turn.Turn.TheVariants as T
use Rattle.jc_requests.specs.Input.{Turn, says, brings, kept}

-- the line of which these bytes are kept, whether an LF ended it or not
abbrev pub line_by : Bool → List ℕ → Line
line_by true raw = whole_line raw
line_by false raw = is_within_limit raw raw

-- the request that was read, where one was
abbrev pub turn_of : Result AnyTurn ReadFault → Line → Option Turn
turn_of (Ok T.Line) line = Some (says line)
turn_of (Ok (T.Text text)) line = Some (brings text.items)
turn_of _ line = None

-- A text of which `part` was read: what was left at its start and is left now, what is kept of it, how many bytes of it
-- were read, and how many could be read at its start and can be now.
pub record TextPart (old now : Option (List ℕ)) (keeps : List ℕ) (count most room : ℕ) : Type 0 where
  pub part : List ℕ
  pub gone : Consumes old now part
  pub kept_is : keeps ≡ kept part
  pub count_is : length part ≡ count
  pub room_is : room + length part ≡ most
