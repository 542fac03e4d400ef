-- What was sent and read in a session, whole or up to a failure: the clauses of `session` cite it.
use Rattle.std.specs.Prelude.{◌≡◌, ◌⊎◌, ℕ, ◌≤◌, ◌<◌, List, [], ◌∷◌, ◌++◌, length, map, Option, Some, None, IfSome}
use Rattle.std.specs.List.{AllByRecursion}
use Rattle.std.specs.Io.KnownBytes.{Consumes}
use Rattle.jc_rules.specs.declared.limits.TheConstants.{MAX_LINE, MAX_LINES, MAX_SESSION}
use Rattle.jc_rules.specs.declared.operation.Event.{Event}
use Rattle.jc_rules.specs.Refused.{Cause}
use Rattle.jc_rules.specs.Step.{Network}
use Rattle.jc_parser.specs.declared.fault.ScenarioFault.{ScenarioFault}
use Rattle.jc_scenario.specs.WellFormed.{Scenario, IsScenario}
use Rattle.jc_scenario.specs.Faults.{IsFault}
use Rattle.jc_network.specs.Given.{before_given, IsStart, IsGivenStuck}
use Rattle.jc_dump.specs.Texts.{given_text}
use Rattle.jc_debug.specs.DebuggerState.{Session, new_session}
use Rattle.jc_session.specs.Lines.{Line, Lacks, with_line_ends, whole_line, last_line}
use Rattle.jc_session.specs.Answers.{Origin, origin_of, IsFaultLine, LineAnswer}
use Rattle.jc_session.specs.SessionText.{AnswersLines, Talks, End, too_many, ShowsSession}
use Rattle.jc_session.specs.declared.sessions.SessionFault.{SessionFault}
use Rattle.jc_session.specs.declared.sessions.SessionFault.TheVariants.{ReadFailed, WriteFailed, TooManyLines, Memory}
use Rattle.jc_io.specs.Written.{Stream, Wrote, Interrupted, Written}

-- the answer of a line was written, and the session goes on
abbrev pub GoesOn : Origin → Session → Line → Session → Stream → Stream → Type 0
GoesOn O A line B old new = Written (λ text. LineAnswer O A line B text) old new

-- the answer of a line was interrupted
abbrev pub BreaksOff : Origin → Session → Line → Stream → Stream → Type 0
BreaksOff O A line old new = (B : Session) × (text : List ℕ) × LineAnswer O A line B text × Interrupted text old new

-- a prefix of the bytes that were left was read
abbrev pub LosesFront : Option (List ℕ) → Option (List ℕ) → Type 0
LosesFront old new = (bs : List ℕ) × Consumes old new bs

-- all lines were answered
abbrev pub AnsweredAll : Origin → Session → List ℕ → End → Stream → Stream → Type 0
AnsweredAll O A bytes end old new = Written (λ text. Talks O A bytes text end) old new

-- The first whole lines of the bytes, within the limits, and their answers.
pub record Answered (O : Origin) (A : Session) (bytes : List ℕ) (whole : List (List ℕ)) (rest : List ℕ) (B : Session)
    (text : List ℕ) : Type 0 where
  pub is : bytes ≡ with_line_ends whole ++ rest
  pub no_lf : AllByRecursion (Lacks 10) whole
  pub count : length whole ≤ MAX_LINES
  pub size : length (with_line_ends whole) ≤ MAX_SESSION
  pub answers : AnswersLines O A (map whole_line whole) B text

-- The answers of all lines whose LF was read were sent, and no more. Of the next line `part` was read, and `rest` is
-- left.
pub record WentToRead (O : Origin) (A : Session) (bytes : List ℕ) (left : Option (List ℕ)) (old new : Stream)
    : Type 0 where
  pub whole : List (List ℕ)
  pub part : List ℕ
  pub rest : List ℕ
  pub last : Session
  pub text : List ℕ
  pub part_no_lf : Lacks 10 part
  pub answered : Answered O A bytes whole (part ++ rest) last text
  pub is_left : IfSome left (λ ys. ys ≡ rest)
  pub went : Wrote text old new

-- The next line was read, and less than MAX_LINE bytes after it; the others are left.
pub data IsNextSent : List ℕ → Line → Option (List ℕ) → Type 0 where
  ends_in_lf : {rest : List ℕ} {left : Option (List ℕ)} (raw ahead : List ℕ)
      → Lacks 10 raw
      → length ahead < MAX_LINE
      → Consumes (Some rest) left (raw ++ 10 ∷ ahead)
      → IsNextSent rest (whole_line raw) left
  ends_at_end : {rest : List ℕ} {line : Line} {left : Option (List ℕ)}
      → Lacks 10 rest
      → last_line rest ≡ line ∷ []
      → Consumes (Some rest) left rest
      → IsNextSent rest line left

-- The answers of some first lines were sent, whole, and the next line was read.
pub record WentWhole (O : Origin) (A : Session) (bytes : List ℕ) (left : Option (List ℕ)) (old new : Stream)
    : Type 0 where
  pub whole : List (List ℕ)
  pub rest : List ℕ
  pub last : Session
  pub text : List ℕ
  pub answered : Answered O A bytes whole rest last text
  pub line : Line
  pub next : IsNextSent rest line left
  pub went : Wrote text old new

-- The answers of some first lines were sent, whole. The next line was read, and its answer was interrupted.
pub record WentFront (O : Origin) (A : Session) (bytes : List ℕ) (left : Option (List ℕ)) (old new : Stream)
    : Type 0 where
  pub whole : List (List ℕ)
  pub rest : List ℕ
  pub last : Session
  pub text : List ℕ
  pub answered : Answered O A bytes whole rest last text
  pub line : Line
  pub next : IsNextSent rest line left
  pub between : Stream
  pub went : Wrote text old between
  pub breaks_off : BreaksOff O last line between new

-- The first byte past the limits of MAX_SESSION bytes and MAX_LINES lines was read, and less than MAX_LINE bytes after
-- it; the others are left.
pub record IsPast (bytes : List ℕ) (left : Option (List ℕ)) : Type 0 where
  pub whole : List (List ℕ)
  pub part : List ℕ
  pub byte : ℕ
  pub ahead : List ℕ
  pub no_lf : AllByRecursion (Lacks 10) whole
  pub part_no_lf : Lacks 10 part
  pub at_limit : (length (with_line_ends whole ++ part) ≡ MAX_SESSION) ⊎ ((length whole ≡ MAX_LINES) × (part ≡ []))
  pub few : length ahead < MAX_LINE
  pub gone : Consumes (Some bytes) left ((with_line_ends whole ++ part) ++ byte ∷ ahead)

-- What was sent of a session's answers, and read of these lines, where a fault stopped it. After a failed read: the
-- answers of all lines whose LF was read. After a failed write: those of the lines before, whole, and the next one up to
-- the failure. Past a limit all answers up to it. Without memory: those of the lines before, whole.
abbrev pub StopsAt : SessionFault → Origin → Session → List ℕ → Option (List ℕ) → Stream → Stream → Type 0
StopsAt ReadFailed O A bytes left old new = WentToRead O A bytes left old new
StopsAt WriteFailed O A bytes left old new = WentFront O A bytes left old new
StopsAt TooManyLines O A bytes left old new = AnsweredAll O A bytes too_many old new × IsPast bytes left
StopsAt Memory O A bytes left old new = WentWhole O A bytes left old new

-- ---- lines whose bytes may not be known

-- It holds of the lines where their bytes are known, and else of some lines, as at a terminal.
abbrev pub OfLines : Option (List ℕ) → (List ℕ → Type 0) → Type 0
OfLines None Says = (l : List ℕ) × Says l
OfLines (Some l) Says = Says l

-- It holds of the lines and of what is left of them where these are known, and else of some lines and of what is left
-- of those.
abbrev pub OfLinesLeft : Option (List ℕ) → Option (List ℕ) → (List ℕ → Option (List ℕ) → Type 0) → Type 0
OfLinesLeft None left Says = (l : List ℕ) × (rest : List ℕ) × Says l (Some rest)
OfLinesLeft (Some l) left Says = Says l left

-- ---- whole sessions

-- The text of a session that ends so was written.
abbrev pub ShowsAll : List ℕ → List ℕ → End → Stream → Stream → Type 0
ShowsAll b l end old new = Written (λ text. ShowsSession b l text end) old new

-- The scenario is refused, and the line for that was interrupted.
abbrev pub WentRefused : List ℕ → Stream → Stream → Type 0
WentRefused b old new =
    (fault : ScenarioFault) × (text : List ℕ) × IsFault b fault × IsFaultLine fault text × Interrupted text old new

-- A given event of the scenario is stuck, and the lines for that were interrupted.
abbrev pub WentGiven : List ℕ → Stream → Stream → Type 0
WentGiven b old new =
    (s : Scenario) × (at : ℕ) × (event : Event) × (why : Cause)
    × IsScenario b s
    × IsGivenStuck (before_given s) s.given at event why
    × Interrupted (given_text s.names at why event) old new

-- it holds of a session on the scenario that the bytes are, from its start
abbrev pub OnScenario : List ℕ → (Origin → Session → Type 0) → Type 0
OnScenario b Says =
    (s : Scenario) × (start : Network)
    × IsScenario b s
    × IsStart s start
    × Says (origin_of s start) (new_session s.schedule)
