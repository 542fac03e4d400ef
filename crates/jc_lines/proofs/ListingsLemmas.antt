-- About Laws: what lists the places of a text, the lines of a journal or the events of a seed has no LF.
use Rattle.std.proofs.Common.{ℕ, ◌-◌, List, [], ◌∷◌, ◌++◌, length, map, Option, Some, None, decimal, codes, refl}
use Rattle.jc_rules.specs.declared.key.Tagged.{Tagged}
use Rattle.jc_rules.specs.declared.operation.Event.{Event}
use Rattle.jc_rules.specs.Refused.{Cause}
use Rattle.jc_rules.specs.Refusals.{refusal_name, refusal_number}
use Rattle.jc_rules.specs.Step.{Network}
use Rattle.jc_printer.specs.Canon.{canon_event, quoted}
use Rattle.jc_scenario.specs.WellFormed.{Scenario}
use Rattle.jc_json.specs.Json.{tagged_text}
use Rattle.jc_choice.specs.declared.end.End.{End}
use Rattle.jc_choice.specs.declared.end.End.TheVariants.{Finished, LimitReached, StuckAt, NoMemory}
use Rattle.jc_weave.specs.Weaving.{counts_in}
use Rattle.jc_requests.specs.Asked.{Position}
use Rattle.jc_answers.specs.JsonTexts.{number_member, string_member, text_member, array_text}
use Rattle.jc_replies.specs.ReplyTexts.{true_member, stuck_member, event_texts, events_answer}
use Rattle.jc_listings.specs.declared.journals.Details.{Details}
use Rattle.jc_listings.specs.Journals as J
use Rattle.jc_listings.specs.Journals.{stuck_line_behind, ListsLines, AnswersJournal, AnswersEvent}
use Rattle.jc_listings.specs.Places.{Span, Block, span_answer, name_member, block_answer, IsPlaces}
use Rattle.jc_listings.specs.Positions.{number_behind, background, unreached_answer}
use Rattle.jc_listings.specs.WovenTexts.{key_if_any, end_members, end_answers, IsWovenText}
use Rattle.jc_lines.specs.OneLine.{HasNoLf}
use Rattle.jc_lines.proofs.NoLfLemmas.{literal, decimal_line, canon_quoted}
use Rattle.jc_lines.proofs.AnswersLemmas.{AreLines, HaveLines, array_line, object_line, refusal_line}
use Rattle.jc_lines.proofs.StuckLinesLemmas.{stuck_line}
use Rattle.jc_lines.proofs.RepliesLemmas.{both, stuck_lines, move_line, events_lines}
use Rattle.jc_lines.proofs.EventLinesLemmas.{made_line}

-- ---- places

span_line : (span : Span) → HasNoLf (span_answer span)
span_line span = array_line (decimal span.0 ∷ decimal span.1 ∷ []) (decimal_line span.0, (decimal_line span.1, tt))

spans_lines : (spans : List Span) → AreLines (map span_answer spans)
spans_lines [] = tt
spans_lines (span ∷ spans) = (span_line span, spans_lines spans)

name_lines : (name : Option (List ℕ)) → HaveLines (name_member name)
name_lines None = tt
name_lines (Some name) = (canon_quoted name, tt)

block_line : (b : Block) → HasNoLf (block_answer b)
block_line b =
    let named = name_member b.name ++ number_member (codes "start") b.span.0 in
    object_line ((codes "end", decimal b.span.1) ∷ (codes "items", array_text (map span_answer b.items)) ∷ (codes "kind", quoted b.kind) ∷ named)
    (decimal_line b.span.1, (array_line (map span_answer b.items) (spans_lines b.items), (canon_quoted b.kind, both (name_member b.name) (number_member (codes "start") b.span.0) (name_lines b.name) (decimal_line b.span.0, tt))))

blocks_lines : (blocks : List Block) → AreLines (map block_answer blocks)
blocks_lines [] = tt
blocks_lines (b ∷ blocks) = (block_line b, blocks_lines blocks)

pub places_line : (text answer : List ℕ) → IsPlaces text answer → HasNoLf answer
places_line text answer h = rw h.is (array_line (map block_answer h.blocks) (blocks_lines h.blocks))

-- ---- a journal, and an event of it

pub stuck_behind : (s : Scenario) (count : ℕ) (network : Network) (why : Cause) (event : Event) → HasNoLf (stuck_line_behind s count network why event)
stuck_behind s count network why event = stuck_line s.names (number_behind s count).0 (number_behind s count).1 network.states why event

lines_lines : (details : Details) (s : Scenario) (count : ℕ) (network : Network) (events : List Event) (texts : List (List ℕ)) → J.AreLines details s count network events texts → AreLines texts
lines_lines details s count network events texts J.none = tt
lines_lines details s count network events texts (J.made step line rest) =
    (made_line details s.names _ _ _ _ _ _ line, lines_lines details s _ _ _ _ rest)
lines_lines details s count network events texts (J.stuck {event = event} why is) = (stuck_behind s count network why event, tt)

list_line : (details : Details) (s : Scenario) (schedule : List Event) (first last : ℕ) (answer : List ℕ) → ListsLines details s schedule first last answer → HasNoLf answer
list_line details s schedule first last answer (J.unreached before stops) = array_line [] tt
list_line details s schedule first last answer (J.lists {texts = texts} is lines) = array_line texts (lines_lines details s _ _ _ texts lines)

pub journal_line : (details : Details) (s : Scenario) (schedule : List Event) (asked : Option (Position × Position)) (answer : List ℕ) → AnswersJournal details s schedule asked answer → HasNoLf answer
journal_line details s schedule asked answer (J.nowhere {refusal} is) = refusal_line refusal
journal_line details s schedule asked answer (J.lists {first} {last} is lines) = list_line details s schedule first last answer lines

-- where an event on the way to a position is stuck
pub unreached_line : (s : Scenario) (schedule : List Event) (count : ℕ) (network : Network) (why : Cause) (event : Event) → HasNoLf (unreached_answer s schedule count network why event)
unreached_line s schedule count network why event =
    let B = background s schedule network.states in
    move_line B (count - length s.given) [] (stuck_member B (count - length s.given) why event) tt (stuck_lines B (count - length s.given) why event)

pub event_line : (details : Details) (s : Scenario) (schedule : List Event) (position : ℕ) (at : Option Position) (answer : List ℕ) → AnswersEvent details s schedule position at answer → HasNoLf answer
event_line details s schedule position at answer (J.nowhere {refusal} is) = refusal_line refusal
event_line details s schedule position at answer (J.first is) = object_line (true_member (codes "start")) (literal (codes "true") refl, tt)
event_line details s schedule position at answer (J.unreached {stop = stop} {network = network} {event = event} {why = why} is before stops) =
    unreached_line s schedule stop network why event
event_line details s schedule position at answer (J.tells is told) = made_line details s.names _ _ _ _ _ _ told.line

-- ---- the schedule of a seed

key_lines : (names : List (List ℕ)) (key : Option Tagged) → HaveLines (key_if_any names key)
key_lines names None = tt
key_lines names (Some k) = (canon_quoted (tagged_text names k), tt)

end_lines : (names : List (List ℕ)) (name : List ℕ) (made : ℕ) (end : End) → HaveLines (end_members names name made end)
end_lines names name made Finished = (canon_quoted (codes "finished"), (decimal_line made, (canon_quoted name, tt)))
end_lines names name made LimitReached = (canon_quoted (codes "limit"), (decimal_line made, (canon_quoted name, tt)))
end_lines names name made (StuckAt s) =
    let more = number_member (codes "made") made ++ (string_member (codes "name") name ++ number_member (codes "stuck") (refusal_number s.refusal)) in
    (canon_quoted (refusal_name s.refusal), (canon_quoted (codes "stuck"), (canon_quoted (canon_event names s.event), both (key_if_any names s.key) more (key_lines names s.key) (decimal_line made, (canon_quoted name, (decimal_line (refusal_number s.refusal), tt))))))
end_lines names name made NoMemory = tt

ends_lines : (all names : List (List ℕ)) (counts : List ℕ) (ends : List End) → AreLines (end_answers all names counts ends)
ends_lines all [] counts ends = tt
ends_lines all (name ∷ names) [] ends = tt
ends_lines all (name ∷ names) (made ∷ counts) [] = tt
ends_lines all (name ∷ names) (made ∷ counts) (end ∷ ends) =
    (object_line (end_members all name made end) (end_lines all name made end), ends_lines all names counts ends)

pub woven_line : (s : Scenario) (seed limit : ℕ) (answer : List ℕ) → IsWovenText s seed limit answer → HasNoLf answer
woven_line s seed limit answer h =
    let ends = end_answers s.names s.names (counts_in h.schedule s.names) h.ends in
    rw h.is (object_line (text_member (codes "ends") (array_text ends) ++ text_member (codes "events") (events_answer s.names h.schedule))
    (array_line ends (ends_lines s.names s.names (counts_in h.schedule s.names) h.ends), (array_line (event_texts s.names h.schedule) (events_lines s.names h.schedule), tt)))
