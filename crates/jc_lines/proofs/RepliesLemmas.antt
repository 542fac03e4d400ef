-- About Laws: the answer of a session's reply has no LF.
use Rattle.std.proofs.Common.{ℕ, ◌+◌, List, [], ◌∷◌, ◌++◌, map, Option, Some, None, true, false, codes, decimal, refl}
use Rattle.jc_rules.specs.declared.operation.Event.{Event}
use Rattle.jc_rules.specs.declared.rule.Rule.{Rule}
use Rattle.jc_rules.specs.Refused.{Cause}
use Rattle.jc_rules.specs.RuleNames.{rule_name}
use Rattle.jc_printer.specs.Canon.{canon_event, quoted}
use Rattle.jc_debug.specs.DebuggerState.{StuckEvent, RunOutcome, breaks, sticks, ends}
use Rattle.jc_meaning.specs.declared.comparison.Comparison.{Comparison}
use Rattle.jc_meaning.specs.declared.comparison.Comparison.TheVariants.{SameOps, DifferentOps}
use Rattle.jc_session.specs.Reply as Y
use Rattle.jc_session.specs.Reply.{Reply}
use Rattle.jc_answers.specs.JsonTexts.{NamedText, number_member, text_member, array_text}
use Rattle.jc_replies.specs.ReplyTexts.{Background, true_member, event_to, event_member, stuck_member, move_answer, went_answer, ran_answer, event_texts, row_text, trace_answer, compared_answer, IsAnswer}
use Rattle.jc_looks.specs.Looks.{state_text, texts_from}
use Rattle.jc_lines.specs.OneLine.{HasNoLf}
use Rattle.jc_lines.proofs.NoLfLemmas.{literal, decimal_line, canon_quoted}
use Rattle.jc_lines.proofs.AnswersLemmas.{AreLines, HaveLines, array_line, object_line, refusal_line, text_line}
use Rattle.jc_lines.proofs.LooksLemmas.{state_line, lines_from}
use Rattle.jc_lines.proofs.StuckLinesLemmas.{stuck_line}

-- ---- members

pub both : (ms ns : List NamedText) → HaveLines ms → HaveLines ns → HaveLines (ms ++ ns)
both [] ns h g = g
both (m ∷ ms) ns h g = (h.0, both ms ns h.1 g)

event_lines : (names : List (List ℕ)) (event : Option Event) → HaveLines (event_member names event)
event_lines names None = tt
event_lines names (Some event) = (canon_quoted (canon_event names event), tt)

pub stuck_lines : (B : Background) (n : ℕ) (why : Cause) (event : Event) → HaveLines (stuck_member B n why event)
stuck_lines B n why event = (stuck_line B.names false (n + 1) B.states why event, tt)

-- ---- moves

pub move_line : (B : Background) (n : ℕ) (end more : List NamedText) → HaveLines end → HaveLines more → HasNoLf (move_answer B n end more)
move_line B n end more h g =
    let event = event_member B.names (event_to B n) in
    object_line (number_member (codes "at") n ++ (end ++ (event ++ more))) (decimal_line n, both end (event ++ more) h (both event more (event_lines B.names (event_to B n)) g))

went_line : (B : Background) (n : ℕ) (stuck : Option StuckEvent) → HasNoLf (went_answer B n stuck)
went_line B n None = move_line B n [] [] tt tt
went_line B n (Some (event, why)) = move_line B n [] (stuck_member B n why event) tt (stuck_lines B n why event)

ran_line : (B : Background) (n : ℕ) (outcome : RunOutcome) → HasNoLf (ran_answer B n outcome)
ran_line B n (breaks j) = move_line B n (number_member (codes "break") (j + 1)) [] (decimal_line (j + 1), tt) tt
ran_line B n (sticks event why) = move_line B n [] (stuck_member B n why event) tt (stuck_lines B n why event)
ran_line B n ends = move_line B n (true_member (codes "end")) [] (literal (codes "true") refl, tt) tt

-- ---- what is shown

pub events_lines : (names : List (List ℕ)) (events : List Event) → AreLines (event_texts names events)
events_lines names [] = tt
events_lines names (event ∷ events) = (canon_quoted (canon_event names event), events_lines names events)

rows_lines : (rows : List (Rule × ℕ)) → AreLines (map row_text rows)
rows_lines [] = tt
rows_lines (row ∷ rows) = (array_line (decimal row.1 ∷ quoted (rule_name row.0) ∷ []) (decimal_line row.1, (canon_quoted (rule_name row.0), tt)), rows_lines rows)

trace_line : (names : List (List ℕ)) (n : ℕ) (event : Event) (rows : List (Rule × ℕ)) → HasNoLf (trace_answer names n event rows)
trace_line names n event rows =
    object_line (event_member names (Some event) ++ number_member (codes "number") n ++ text_member (codes "rules") (array_text (map row_text rows)))
    (canon_quoted (canon_event names event), (decimal_line n, (array_line (map row_text rows) (rows_lines rows), tt)))

compared_line : (found : Comparison) → HasNoLf (compared_answer found)
compared_line (SameOps true) = literal (compared_answer (SameOps true)) refl
compared_line (SameOps false) = literal (compared_answer (SameOps false)) refl
compared_line DifferentOps = literal (compared_answer DifferentOps) refl

number_line : (name : List ℕ) (n : ℕ) → HaveLines (number_member name n)
number_line name n = (decimal_line n, tt)

-- ---- replies

pub reply_line : (B : Background) (text : List ℕ) (reply : Reply) (answer : List ℕ) → IsAnswer B text reply answer → HasNoLf answer
reply_line B text (Y.refused refusal) answer h = rw h (refusal_line refusal)
reply_line B text (Y.misspelled refusal place) answer h = text_line text refusal place answer h
reply_line B text (Y.went n stuck) answer h = rw h (went_line B n stuck)
reply_line B text (Y.ran n outcome) answer h = rw h (ran_line B n outcome)
reply_line B text (Y.set k) answer h = rw h (object_line (number_member (codes "set") k) (number_line (codes "set") k))
reply_line B text (Y.cleared k) answer h = rw h (object_line (number_member (codes "cleared") k) (number_line (codes "cleared") k))
reply_line B text (Y.states all) answer h = rw h (array_line (texts_from state_text 0 B.names all) (lines_from state_text B.names (state_line B.names) 0 all))
reply_line B text (Y.state_of name state) answer h = rw h (state_line B.names name state)
reply_line B text (Y.traced n event rows) answer h = rw h (trace_line B.names n event rows)
reply_line B text Y.at_start answer h = rw h (object_line (true_member (codes "start")) (literal (codes "true") refl, tt))
reply_line B text (Y.enabled events) answer h = rw h (array_line (event_texts B.names events) (events_lines B.names events))
reply_line B text (Y.scheduled events) answer h = rw h (array_line (event_texts B.names events) (events_lines B.names events))
reply_line B text (Y.stands n length) answer h = rw h (move_line B n [] (number_member (codes "of") length) tt (number_line (codes "of") length))
reply_line B text (Y.compared found) answer h = rw h (compared_line found)
