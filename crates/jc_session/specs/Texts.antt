-- The texts of replies: what a session writes. Those that no other crate has are defined here.
use Rattle.std.specs.Prelude.{ℕ, ◌+◌, List, [], ◌∷◌, ◌++◌, flat_map, Option, Some, None, true, false, codes, decimal}
use Rattle.jc_rules.specs.declared.operation.Event.{Event}
use Rattle.jc_rules.specs.declared.refusal.Refusal.{Refusal}
use Rattle.jc_rules.specs.Refusals.{refusal_number, refusal_name}
use Rattle.jc_printer.specs.Canon.{canon_event}
use Rattle.jc_dump.specs.Dump.{dump_line}
use Rattle.jc_dump.specs.Lines.{stuck_text}
use Rattle.jc_dump.specs.Texts.{block_text, dumps_text, refused_text}
use Rattle.jc_debug.specs.DebuggerState.{StuckEvent, RunOutcome, breaks, sticks, ends}
use Rattle.jc_meaning.specs.declared.comparison.Comparison.{Comparison}
use Rattle.jc_meaning.specs.declared.comparison.Comparison.TheVariants.{SameOps, DifferentOps}
use Rattle.jc_session.specs.Reply as Y
use Rattle.jc_session.specs.Reply.{Reply}

-- a refusal without a place
abbrev pub refusal_line : Refusal → List ℕ
refusal_line refusal =
    codes "refused " ++ decimal (refusal_number refusal) ++ codes " " ++ refusal_name refusal ++ codes "\n"

abbrev pub at_line : ℕ → List ℕ
at_line n = codes "at " ++ decimal n ++ codes "\n"

abbrev pub set_line : ℕ → List ℕ
set_line k = codes "set " ++ decimal k ++ codes "\n"

abbrev pub cleared_line : ℕ → List ℕ
cleared_line k = codes "cleared " ++ decimal k ++ codes "\n"

abbrev pub where_line : ℕ → ℕ → List ℕ
where_line n length = codes "at " ++ decimal n ++ codes " of " ++ decimal length ++ codes "\n"

-- the position that a move reached, and the event that is stuck there, if one is
abbrev pub went_text : List (List ℕ) → ℕ → Option StuckEvent → List ℕ
went_text names n None = at_line n
went_text names n (Some (event, why)) = at_line n ++ stuck_text names why event

-- the position that a run reached, and why it went no further; the breakpoint at place j has the number j + 1
abbrev pub ran_text : List (List ℕ) → ℕ → RunOutcome → List ℕ
ran_text names n (breaks j) = at_line n ++ (codes "break " ++ decimal (j + 1) ++ codes "\n")
ran_text names n (sticks event why) = at_line n ++ stuck_text names why event
ran_text names n ends = at_line n ++ codes "end\n"

-- how two replicas compare
abbrev pub compared_line : Comparison → List ℕ
compared_line (SameOps true) = codes "same operations same tree\n"
compared_line (SameOps false) = codes "same operations different tree\n"
compared_line DifferentOps = codes "different operations\n"

-- an event with its number in the schedule
abbrev pub numbered_line : List (List ℕ) → ℕ → Event → List ℕ
numbered_line names n event = decimal n ++ codes " " ++ canon_event names event ++ codes "\n"

-- events, of which the first one has the number n
abbrev pub numbered_lines : List (List ℕ) → ℕ → List Event → List ℕ
numbered_lines names n [] = []
numbered_lines names n (event ∷ events) = numbered_line names n event ++ numbered_lines names (n + 1) events

abbrev pub event_lines : List (List ℕ) → List Event → List ℕ
event_lines names events = flat_map (λ event. canon_event names event ++ codes "\n") events

-- a list that may be empty
abbrev pub or_none_text : List ℕ → List ℕ
or_none_text [] = codes "none\n"
or_none_text (b ∷ bs) = b ∷ bs

-- what a session writes for a reply
abbrev pub reply_text : List (List ℕ) → Reply → List ℕ
reply_text names (Y.refused refusal) = refusal_line refusal
reply_text names (Y.misspelled refusal place) = refused_text refusal place
reply_text names (Y.went n end) = went_text names n end
reply_text names (Y.ran n end) = ran_text names n end
reply_text names (Y.set k) = set_line k
reply_text names (Y.cleared k) = cleared_line k
reply_text names (Y.states all) = dumps_text names all
reply_text names (Y.state_of name state) = dump_line names name state
reply_text names (Y.traced n event rows) = block_text names n event rows
reply_text names Y.at_start = codes "start\n"
reply_text names (Y.enabled events) = or_none_text (event_lines names events)
reply_text names (Y.scheduled events) = or_none_text (numbered_lines names 1 events)
reply_text names (Y.stands n length) = where_line n length
reply_text names (Y.compared found) = compared_line found
