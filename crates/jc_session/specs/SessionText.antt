-- The text of a session on the bytes of a scenario and of lines: what `session` writes where nothing fails.
use Rattle.std.specs.Prelude.{◌≡◌, ℕ, nat_le, ◌&&◌, List, [], ◌∷◌, ◌++◌, length, take, map, if◌then◌else◌}
use Rattle.jc_rules.specs.declared.limits.TheConstants.{MAX_LINES, MAX_SESSION}
use Rattle.jc_rules.specs.declared.operation.Event.{Event}
use Rattle.jc_rules.specs.Refused.{Cause}
use Rattle.jc_rules.specs.Step.{Network}
use Rattle.jc_parser.specs.declared.fault.ScenarioFault.{ScenarioFault}
use Rattle.jc_scenario.specs.WellFormed.{Scenario, IsScenario}
use Rattle.jc_scenario.specs.Faults.{IsFault}
use Rattle.jc_network.specs.Given.{before_given, IsStart, IsGivenStuck}
use Rattle.jc_dump.specs.Texts.{given_text}
use Rattle.jc_debug.specs.DebuggerState.{Session, new_session}
use Rattle.jc_session.specs.Lines.{Line, AreLines, whole_line, last_line}
use Rattle.jc_session.specs.Requests.{asks, quit, meaning}
use Rattle.jc_session.specs.Answers.{Origin, origin_of, IsFaultLine, LineAnswer}

-- The lines are answered one after another, and none of them is `quit`.
abbrev pub AnswersLines : Origin → Session → List Line → Session → List ℕ → Type 0
AnswersLines O A [] B text = (B ≡ A) × (text ≡ [])
AnswersLines O A (x ∷ xs) B text =
    (M : Session) × (t : List ℕ) × (u : List ℕ)
    × LineAnswer O A x M t
    × AnswersLines O M xs B u
    × (text ≡ t ++ u)

-- How a session ends: at `quit` or at the end of the lines; past a limit; with a refused scenario; with a given event
-- that is stuck.
pub data End : Type 0 where
  finished : End
  too_many : End
  text_refused : ScenarioFault → End
  given_stuck : End

-- Of the lines that are due all are answered, or those before a `quit`.
pub data Ends : List Line → End → List Line → End → Type 0 where
  at_the_end : {lines : List Line} {end : End} → Ends lines end lines end
  at_quit : {lines due : List Line} {end : End} (x : Line) (more : List Line)
      → due ≡ lines ++ x ∷ more
      → meaning x ≡ asks quit
      → Ends lines finished due end

-- The lines of the bytes up to these limits, and how a session ends after them: past a limit where there is a byte or a
-- line more.
pub record AreWithin (most_bytes most_lines : ℕ) (bytes : List ℕ) (lines : List Line) (end : End) : Type 0 where
  pub whole : List (List ℕ)
  pub last : List ℕ
  pub parts : AreLines (take most_bytes bytes) whole last
  pub all : List Line
  pub all_are : all
      ≡ (if nat_le (length bytes) most_bytes then map whole_line whole ++ last_line last else map whole_line whole)
  pub lines_are : lines ≡ take most_lines all
  pub end_is : end
      ≡ (if nat_le (length bytes) most_bytes && nat_le (length all) most_lines then finished else too_many)

-- the same for the limits of a session
abbrev pub AreDue : List ℕ → List Line → End → Type 0
AreDue = AreWithin MAX_SESSION MAX_LINES

-- From the state, the lines of the bytes are answered by the text, and the session ends so.
pub record Talks (O : Origin) (A : Session) (bytes text : List ℕ) (end : End) : Type 0 where
  pub due : List Line
  pub due_end : End
  pub are_due : AreDue bytes due due_end
  pub lines : List Line
  pub ends : Ends lines end due due_end
  pub last : Session
  pub answers : AnswersLines O A lines last text

-- The text of a session on a scenario's bytes and its lines' bytes, and how it ends.
pub data ShowsSession (b l : List ℕ) : List ℕ → End → Type 0 where
  refused : {text : List ℕ} (fault : ScenarioFault)
      → IsFault b fault
      → IsFaultLine fault text
      → ShowsSession b l text (text_refused fault)
  stuck : (s : Scenario) (at : ℕ) (event : Event) (why : Cause)
      → IsScenario b s
      → IsGivenStuck (before_given s) s.given at event why
      → ShowsSession b l (given_text s.names at why event) given_stuck
  talks : {text : List ℕ} {end : End} (s : Scenario) (start : Network)
      → IsScenario b s
      → IsStart s start
      → Talks (origin_of s start) (new_session s.schedule) l text end
      → ShowsSession b l text end
