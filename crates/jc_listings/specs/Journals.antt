-- The lines of a journal between two positions, and the line of one event.
use Rattle.std.specs.Prelude.{◌≡◌, ℕ, suc, ◌-◌, ◌<◌, Bool, true, false, List, [], ◌∷◌, length, take, drop, slice_get, Option, Some, None, Result, Ok, Err, codes}
use Rattle.jc_rules.specs.declared.operation.Event.{Event}
use Rattle.jc_rules.specs.declared.refusal.Refusal.{Refusal}
use Rattle.jc_rules.specs.declared.rule.Rule.{Rule}
use Rattle.jc_rules.specs.Refused.{Cause, IsStuckIn}
use Rattle.jc_rules.specs.State.{State}
use Rattle.jc_rules.specs.Step.{Network, StepIn}
use Rattle.jc_scenario.specs.WellFormed.{Scenario}
use Rattle.jc_effects.specs.Difference.{Differences}
use Rattle.jc_journal.specs.EventLine.{AreEffects, event_line}
use Rattle.jc_journal.specs.StuckLine.{stuck_event_line}
use Rattle.jc_listings.specs.declared.journals.Details.{Details}
use Rattle.jc_requests.specs.Asked.{Position}
use Rattle.jc_answers.specs.JsonTexts.{unended, object_text, array_text}
use Rattle.jc_answers.specs.Refusals.{refusal_answer}
use Rattle.jc_replies.specs.ReplyTexts.{true_member}
use Rattle.jc_listings.specs.Positions.{all_events, count_of, count_at, number_behind, unreached_answer, IsAt, StopsAt}

-- the rules of an event, where they are asked for
abbrev pub rules_asked : Bool → List (Rule × ℕ) → Option (List (Rule × ℕ))
rules_asked false rows = None
rules_asked true rows = Some rows

-- ---- lines

-- the line of an event which led its replica from one state to another: whether it is a given one, and its number
pub record IsMadeLine
    (details : Details) (names : List (List ℕ)) (number : Bool × ℕ) (event : Event) (rows : List (Rule × ℕ)) (A B : State)
    (text : List ℕ) : Type 0 where
  pub effects : Option Differences
  pub are_effects : AreEffects details.effects event A B effects
  pub is : text
      ≡ unended (event_line names number.0 number.1 event (rules_asked details.trace rows) effects A B)

-- the line of such an event that is stuck in the network
abbrev pub stuck_line_in : List (List ℕ) → Bool × ℕ → Network → Cause → Event → List ℕ
stuck_line_in names number network why event =
    unended (stuck_event_line names number.0 number.1 network.states why event)

-- the line of the event behind so many, which is stuck in the network
abbrev pub stuck_line_behind : Scenario → ℕ → Network → Cause → Event → List ℕ
stuck_line_behind s count network why event = stuck_line_in s.names (number_behind s count) network why event

-- The lines of these events, made one after another from the network behind so many; that of one that is stuck is the
-- last.
pub data AreLines (details : Details) (s : Scenario) : ℕ → Network → List Event → List (List ℕ) → Type 0 where
  none : {count : ℕ} {network : Network} → AreLines details s count network [] []
  made : {count : ℕ} {network between : Network} {event : Event} {events : List Event} {text : List ℕ}
      {texts : List (List ℕ)} {rows : List (Rule × ℕ)} (step : StepIn network event between rows)
      → IsMadeLine details s.names (number_behind s count) event rows step.step.before step.step.after text
      → AreLines details s (suc count) between events texts
      → AreLines details s count network (event ∷ events) (text ∷ texts)
  stuck : {count : ℕ} {network : Network} {event : Event} {events : List Event} (why : Cause)
      → IsStuckIn network event why
      → AreLines details s count network (event ∷ events) (stuck_line_behind s count network why event ∷ [])

-- the events behind the first count, up to the second
abbrev pub events_between : Scenario → List Event → ℕ → ℕ → List Event
events_between s schedule first last = take (last - first) (drop first (all_events s schedule))

-- A list of the lines of these events. Where an event before them is stuck, it is empty.
pub data ListsLines (details : Details) (s : Scenario) (schedule : List Event) (first last : ℕ) : List ℕ → Type 0 where
  unreached : {stop : ℕ} {network : Network} {event : Event} {why : Cause}
      → stop < first
      → StopsAt s schedule stop network event why
      → ListsLines details s schedule first last (array_text [])
  lists : {network : Network} {texts : List (List ℕ)}
      → IsAt s schedule first network
      → AreLines details s first network (events_between s schedule first last) texts
      → ListsLines details s schedule first last (array_text texts)

-- the line of the event behind so many, which is made
pub record IsLineBehind (details : Details) (s : Scenario) (schedule : List Event) (count : ℕ) (text : List ℕ) : Type 0 where
  pub network : Network
  pub between : Network
  pub event : Event
  pub rows : List (Rule × ℕ)
  pub is_at : IsAt s schedule count network
  pub is : slice_get (all_events s schedule) count ≡ Some event
  pub step : StepIn network event between rows
  pub line : IsMadeLine details s.names (number_behind s count) event rows step.step.before step.step.after text

-- ---- the answers

-- the counts of two positions, of which the first one that isn't there is refused
abbrev pub counts_of : Result ℕ Refusal → Result ℕ Refusal → Result (ℕ × ℕ) Refusal
counts_of (Err refusal) last = Err refusal
counts_of (Ok first) (Err refusal) = Err refusal
counts_of (Ok first) (Ok last) = Ok (first, last)

-- all events, or those between two positions
abbrev pub asked_counts : Scenario → List Event → Option (Position × Position) → Result (ℕ × ℕ) Refusal
asked_counts s schedule None = Ok (0, length (all_events s schedule))
asked_counts s schedule (Some p) = counts_of (count_of s schedule p.0) (count_of s schedule p.1)

-- What `journal` is answered.
pub data AnswersJournal
    (details : Details) (s : Scenario) (schedule : List Event) (asked : Option (Position × Position))
    : List ℕ → Type 0 where
  nowhere : {refusal : Refusal}
      → asked_counts s schedule asked ≡ Err refusal
      → AnswersJournal details s schedule asked (refusal_answer refusal)
  lists : {first last : ℕ} {answer : List ℕ}
      → asked_counts s schedule asked ≡ Ok (first, last)
      → ListsLines details s schedule first last answer
      → AnswersJournal details s schedule asked answer

-- What `event` is answered, where one stands at a position of a schedule.
pub data AnswersEvent
    (details : Details) (s : Scenario) (schedule : List Event) (position : ℕ) (at : Option Position)
    : List ℕ → Type 0 where
  nowhere : {refusal : Refusal}
      → count_at s schedule position at ≡ Err refusal
      → AnswersEvent details s schedule position at (refusal_answer refusal)
  first : count_at s schedule position at ≡ Ok 0
      → AnswersEvent details s schedule position at (object_text (true_member (codes "start")))
  unreached : {count stop : ℕ} {network : Network} {event : Event} {why : Cause}
      → count_at s schedule position at ≡ Ok count
      → stop < count
      → StopsAt s schedule stop network event why
      → AnswersEvent details s schedule position at (unreached_answer s schedule stop network why event)
  tells : {count : ℕ} {text : List ℕ}
      → count_at s schedule position at ≡ Ok (suc count)
      → IsLineBehind details s schedule count text
      → AnswersEvent details s schedule position at text
