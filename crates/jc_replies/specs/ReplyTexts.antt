-- The answers to a session's requests, by their replies: programs are given these where a session writes its texts.
use Rattle.std.specs.Prelude.{◌≡◌, ℕ, zero, suc, ◌+◌, ◌-◌, List, [], ◌∷◌, ◌++◌, length, map, slice_get, Option, Some, None, true, false, codes, decimal}
use Rattle.jc_rules.specs.declared.operation.Event.{Event}
use Rattle.jc_rules.specs.declared.rule.Rule.{Rule}
use Rattle.jc_rules.specs.Refused.{Cause}
use Rattle.jc_rules.specs.RuleNames.{rule_name}
use Rattle.jc_rules.specs.State.{State}
use Rattle.jc_printer.specs.Canon.{canon_event, quoted}
use Rattle.jc_journal.specs.StuckLine.{stuck_event_line}
use Rattle.jc_debug.specs.DebuggerState.{StuckEvent, RunOutcome, breaks, sticks, ends}
use Rattle.jc_meaning.specs.declared.comparison.Comparison.{Comparison}
use Rattle.jc_meaning.specs.declared.comparison.Comparison.TheVariants.{SameOps, DifferentOps}
use Rattle.jc_session.specs.Reply as Y
use Rattle.jc_session.specs.Reply.{Reply}
use Rattle.jc_answers.specs.JsonTexts.{NamedText, unended, number_member, string_member, text_member, array_text, object_text}
use Rattle.jc_answers.specs.Refusals.{refusal_answer, IsRefusedText}
use Rattle.jc_looks.specs.Looks.{state_text, texts_from}

-- What an answer shows beside the reply: the replicas' names, the given events, the schedule, and the states of the
-- network at the session's position.
pub record Background : Type 0 where
  pub names : List (List ℕ)
  pub given : List Event
  pub schedule : List Event
  pub states : List State

abbrev pub true_member : List ℕ → List NamedText
true_member name = text_member name (codes "true")

-- ---- positions

-- the event that leads to a position: of position 0 it is the last given one, if there is one
abbrev pub event_to : Background → ℕ → Option Event
event_to B zero = slice_get B.given (length B.given - 1)
event_to B (suc n) = slice_get B.schedule n

abbrev pub event_member : List (List ℕ) → Option Event → List NamedText
event_member names None = []
event_member names (Some event) = string_member (codes "event") (canon_event names event)

-- the journal's line of an event that is stuck behind a position
abbrev pub stuck_member : Background → ℕ → Cause → Event → List NamedText
stuck_member B n why event =
    text_member (codes "stuck") (unended (stuck_event_line B.names false (n + 1) B.states why event))

-- ---- moves

-- a position, how a run to it ended, its event, and what else is told
abbrev pub move_answer : Background → ℕ → List NamedText → List NamedText → List ℕ
move_answer B n end more =
    object_text (number_member (codes "at") n ++ (end ++ (event_member B.names (event_to B n) ++ more)))

abbrev pub went_answer : Background → ℕ → Option StuckEvent → List ℕ
went_answer B n None = move_answer B n [] []
went_answer B n (Some (event, why)) = move_answer B n [] (stuck_member B n why event)

-- the breakpoint at place j has the number j + 1
abbrev pub ran_answer : Background → ℕ → RunOutcome → List ℕ
ran_answer B n (breaks j) = move_answer B n (number_member (codes "break") (j + 1)) []
ran_answer B n (sticks event why) = move_answer B n [] (stuck_member B n why event)
ran_answer B n ends = move_answer B n (true_member (codes "end")) []

-- a position in a schedule of so many events
abbrev pub position_answer : Background → ℕ → ℕ → List ℕ
position_answer B n length = move_answer B n [] (number_member (codes "of") length)

-- ---- what is shown

abbrev pub event_texts : List (List ℕ) → List Event → List (List ℕ)
event_texts names events = map (λ event. quoted (canon_event names event)) events

abbrev pub events_answer : List (List ℕ) → List Event → List ℕ
events_answer names events = array_text (event_texts names events)

-- a rule with its depth before it
abbrev pub row_text : Rule × ℕ → List ℕ
row_text row = array_text (decimal row.1 ∷ quoted (rule_name row.0) ∷ [])

abbrev pub trace_answer : List (List ℕ) → ℕ → Event → List (Rule × ℕ) → List ℕ
trace_answer names n event rows =
    object_text (
    event_member names (Some event) ++ number_member (codes "number") n
    ++ text_member (codes "rules") (array_text (map row_text rows)))

abbrev pub compared_answer : Comparison → List ℕ
compared_answer (SameOps true) =
    object_text (string_member (codes "operations") (codes "same") ++ string_member (codes "tree") (codes "same"))
compared_answer (SameOps false) =
    object_text (string_member (codes "operations") (codes "same") ++ string_member (codes "tree") (codes "different"))
compared_answer DifferentOps = object_text (string_member (codes "operations") (codes "different"))

-- ---- replies

-- The answer of a reply. `text` is that of the request's event, where it has one.
abbrev pub IsAnswer : Background → List ℕ → Reply → List ℕ → Type 0
IsAnswer B text (Y.refused refusal) answer = answer ≡ refusal_answer refusal
IsAnswer B text (Y.misspelled refusal place) answer = IsRefusedText text refusal place answer
IsAnswer B text (Y.went n end) answer = answer ≡ went_answer B n end
IsAnswer B text (Y.ran n end) answer = answer ≡ ran_answer B n end
IsAnswer B text (Y.set k) answer = answer ≡ object_text (number_member (codes "set") k)
IsAnswer B text (Y.cleared k) answer = answer ≡ object_text (number_member (codes "cleared") k)
IsAnswer B text (Y.states all) answer = answer ≡ array_text (texts_from state_text 0 B.names all)
IsAnswer B text (Y.state_of name state) answer = answer ≡ state_text B.names name state
IsAnswer B text (Y.traced n event rows) answer = answer ≡ trace_answer B.names n event rows
IsAnswer B text Y.at_start answer = answer ≡ object_text (true_member (codes "start"))
IsAnswer B text (Y.enabled events) answer = answer ≡ events_answer B.names events
IsAnswer B text (Y.scheduled events) answer = answer ≡ events_answer B.names events
IsAnswer B text (Y.stands n length) answer = answer ≡ position_answer B n length
IsAnswer B text (Y.compared found) answer = answer ≡ compared_answer found
