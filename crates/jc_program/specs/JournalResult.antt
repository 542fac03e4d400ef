-- What the functions of `journal` return and add: their contracts cite it.
use Rattle.std.specs.Prelude.{◌≡◌, ℕ, List, [], Bool, true, false, Option, Some, None, is_some}
use Rattle.jc_rules.specs.declared.operation.Event.{Event}
use Rattle.jc_rules.specs.declared.rule.Rule.{Rule}
use Rattle.jc_rules.specs.Refused.{Cause, IsStuckIn}
use Rattle.jc_rules.specs.Step.{Network, StepIn}
use Rattle.jc_rules.specs.Trace.{Rows}
use Rattle.jc_effects.specs.Difference.{Differences}
use Rattle.jc_network.specs.NetworkHistory.{NetworkHistory, StepsTo}
use Rattle.jc_journal.specs.declared.event.NumberedEvent.{NumberedEvent}
use Rattle.jc_journal.specs.EventLine.{IsBeforeLast, AreEffects, event_line}
use Rattle.jc_journal.specs.StuckLine.{stuck_event_line}
use Rattle.jc_out.specs.Out.{OutState, AddsText}
use Rattle.jc_program.specs.Journals.{Asked, IsEventLine, JournalOf}
use Rattle.jc_program.specs.Runs.{Stuck}

-- ---- the network behind

-- what is asked for: effects, where there is a network that is one event behind
abbrev pub asked_by : Bool → Option NetworkHistory → Asked
asked_by trace old = record { rules = trace; effects = is_some old }

-- where there is one, it is at this network and has nothing to go back to
abbrev pub IsBehind : Option NetworkHistory → Network → Type 0
IsBehind None network = Unit {0}
IsBehind (Some c) network = (c.history.now ≡ network) × (c.history.earlier ≡ [])

-- it made the event
abbrev pub CatchesUp : Event → Option NetworkHistory → Option NetworkHistory → Type 0
CatchesUp event None None = Unit {0}
CatchesUp event (Some c) (Some d) =
    ((rows : List (Rule × ℕ)) × StepIn c.history.now event d.history.now rows) × (d.history.earlier ≡ [])
CatchesUp event old new = ⊥

-- ---- one line

-- the line of an event that led to the network, as its last step, from one at which the one behind is
abbrev pub IsLineOf
    : NetworkHistory → Option NetworkHistory → NumberedEvent → Option (List (Rule × ℕ)) → List ℕ → Type 0
IsLineOf net old e rules line =
    (first : Network) (rows : List (Rule × ℕ))
    → IsBeforeLast first net.history
    → (made : StepIn first e.event net.history.now rows)
    → IsBehind old first
    → (effects : Option Differences)
    × AreEffects (is_some old) e.event made.step.before made.step.after effects
    × (line ≡ event_line net.names e.given e.number e.event rules effects made.step.before made.step.after)

-- ---- one event

-- The event was made; or it is stuck, and nothing changed. The line is its own.
abbrev pub JournalsNext : Asked → NetworkHistory → NetworkHistory → NumberedEvent → List ℕ → Bool → Type 0
JournalsNext asked old new e line false =
    (rows : Rows) × (to : StepsTo old e.event new rows)
    × IsEventLine asked e.given old.names e.number e.event rows.rows to.step.step.before to.step.step.after line
JournalsNext asked old new e line true =
    (new ≡ old) × (why : Cause) × IsStuckIn old.history.now e.event why
    × (line ≡ stuck_event_line old.names e.given e.number old.history.now.states why e.event)

-- ---- all events

-- The events were made to the end or the first stuck one, and the text of their journal was added.
pub record JournalsAll
    (asked : Asked) (given : Bool) (old new : NetworkHistory) (events : List Event)
    (a b : OutState) (answer : Bool) : Type 0 where
  pub stuck : Option Stuck
  pub text : List ℕ
  pub journal : JournalOf asked given old.names old.history.now events new.history.now stuck text
  pub tells : is_some stuck ≡ answer
  pub names : new.names ≡ old.names
  pub added : AddsText text a b
