-- About Laws: the answers of `serve` have no LF, so its text has one for each request.
use Rattle.std.proofs.Common.{◌≡◌, ℕ, suc, ◌+◌, Bool, true, false, List, [], ◌∷◌, ◌++◌, length, Option, Some, None, inl, inr, decimal, codes, refl, sym, ap, subst, arith}
use Rattle.jc_rules.specs.declared.operation.Cursor.{Cursor}
use Rattle.jc_rules.specs.declared.operation.Event.{Event}
use Rattle.jc_rules.specs.declared.refusal.Refusal.{Refusal}
use Rattle.jc_rules.specs.declared.refusal.Refusal.TheVariants as F
use Rattle.jc_rules.specs.Refusals.{refusal_name, refusal_number}
use Rattle.jc_rules.specs.ReplicaNames.{name_at}
use Rattle.jc_rules.specs.RuleNames.{rule_name}
use Rattle.jc_rules.specs.State.{State}
use Rattle.jc_rules.specs.Step.{Network}
use Rattle.jc_parser.specs.declared.fault.ScenarioFault.{ScenarioFault}
use Rattle.jc_scenario.specs.Canon.{canon}
use Rattle.jc_scenario.specs.WellFormed.{Scenario}
use Rattle.jc_json.specs.Json.{id_text}
use Rattle.jc_dump.specs.Dump.{cursor_data, cursor_text}
use Rattle.jc_debug.specs.declared.breaks.Break.TheVariants as Kind
use Rattle.jc_session.specs.Reply as Y
use Rattle.jc_session.specs.Requests.{Word}
use Rattle.jc_requests.specs.Asked as K
use Rattle.jc_requests.specs.Asked.{Asked, Position}
use Rattle.jc_requests.specs.Input.{Turn}
use Rattle.jc_answers.specs.JsonTexts.{NamedText, number_member, text_member}
use Rattle.jc_answers.specs.Refusals.{lf_count, refusal_members}
use Rattle.jc_looks.specs.declared.looks.Look.{Look}
use Rattle.jc_replies.specs.AnswerOf.{event_text}
use Rattle.jc_replies.specs.ReplyTexts.{true_member, move_answer}
use Rattle.jc_listings.specs.Positions.{background}
use Rattle.jc_serve.specs.Answers as N
use Rattle.jc_serve.specs.Answers.{quit_answer, details, AnswersRefused, IsBadRequest, AnswersStuck, SetsMark, named_mark, mark_members, mark_answers, IsNoPlace, SetsPlace, at_mark, at_start, AnswersServed, AnswersAbout}
use Rattle.jc_serve.specs.Asking as G
use Rattle.jc_serve.specs.Asking.{IsBadName, IsMisspelledAnswer, IsBadExpression, IsBadLook, LooksAt, AnswersLook}
use Rattle.jc_serve.specs.Marks.{Mark, of_session, operation, place, Served}
use Rattle.jc_serve.specs.Serving as S
use Rattle.jc_serve.specs.Serving.{Held, AnswersTurn, AnswersTurns}
use Rattle.jc_serve.specs.Subjects.{Subject, no_scenario, stuck_given, served, GivenStop, tells_expected, IsExpectedMember, IsTextAnswer, IsFaultAnswer, stuck_line_of, given_stuck_answer, command_count, counts_answer, IsCounts}
use Rattle.jc_lines.specs.OneLine.{HasNoLf}
use Rattle.jc_lines.proofs.NoLfLemmas.{literal, lf_append, decimal_line, canon_quoted}
use Rattle.jc_lines.proofs.CompactLemmas.{compact_line}
use Rattle.jc_lines.proofs.AnswersLemmas.{AreLines, HaveLines, array_line, object_line, refused_line, refusal_line, text_line_with, text_line, expected_line}
use Rattle.jc_lines.proofs.LooksLemmas.{no_value_line, look_line}
use Rattle.jc_lines.proofs.RepliesLemmas.{move_line, reply_line}
use Rattle.jc_lines.proofs.ListingsLemmas.{places_line, stuck_behind, journal_line, unreached_line, event_line, woven_line}

-- ---- a text as a whole

quit_line : HasNoLf quit_answer
quit_line = object_line (true_member (codes "quit")) (literal (codes "true") refl, tt)

-- where it is told what could stand at the offset, that is a line too
expected_lines : (text : List ℕ) (at : ℕ) (tells : Bool) (more : List NamedText) → IsExpectedMember text at tells more → HaveLines more
expected_lines text at true more h = subst HaveLines (sym h.2) (expected_line text at h.0 h.1, tt)
expected_lines text at false more h = subst HaveLines (sym h) tt

text_answer_line : (text : List ℕ) (refusal : Refusal) (at : ℕ) (answer : List ℕ) → IsTextAnswer text refusal at answer → HasNoLf answer
text_answer_line text refusal at answer h =
    text_line_with h.more text refusal at answer (expected_lines text at (tells_expected refusal) h.more h.expected) h.written

fault_line : (text : List ℕ) (fault : ScenarioFault) (answer : List ℕ) → IsFaultAnswer text fault answer → HasNoLf answer
fault_line text fault answer h = text_answer_line text h.refusal h.place answer h.written

counts_line : (s : Scenario) (stuck : List NamedText) → HaveLines stuck → HasNoLf (counts_answer s stuck)
counts_line s stuck h =
    object_line (
    (codes "commands", decimal (command_count s)) ∷ (codes "events", decimal (length s.schedule))
    ∷ (codes "given", decimal (length s.given)) ∷ (codes "replicas", decimal (length s.names)) ∷ stuck)
    (decimal_line (command_count s), (decimal_line (length s.schedule), (decimal_line (length s.given), (decimal_line (length s.names), h))))

stop_line : (s : Scenario) (stop : GivenStop s) → HasNoLf (stuck_line_of s stop)
stop_line s stop = stuck_behind s stop.count stop.network stop.why stop.event

given_stuck_line : (s : Scenario) (stop : GivenStop s) → HasNoLf (given_stuck_answer s stop)
given_stuck_line s stop =
    refused_line (refusal_members F.GivenStuck ++ text_member (codes "stuck") (stuck_line_of s stop))
    (canon_quoted (refusal_name F.GivenStuck), (decimal_line (refusal_number F.GivenStuck), (stop_line s stop, tt)))

brought_line : (text : List ℕ) (subject : Subject) (answer : List ℕ) → IsCounts text subject answer → HasNoLf answer
brought_line text (no_scenario fault) answer h = fault_line text fault answer h
brought_line text (stuck_given s stop) answer h = rw h (counts_line s (text_member (codes "stuck") (stuck_line_of s stop)) (stop_line s stop, tt))
brought_line text (served s start A) answer h = rw h (counts_line s [] tt)

refused_text_line : (text : List ℕ) (fault : ScenarioFault) (request : Asked) (answer : List ℕ) → AnswersRefused text fault request answer → HasNoLf answer
refused_text_line text fault request answer N.quits = quit_line
refused_text_line text fault request answer (N.no_rule none) = refusal_line F.BadLine
refused_text_line text fault request answer (N.refuses other named h) = fault_line text fault answer h

-- ---- what is wrong in a request

misspelled_line : (names : List (List ℕ)) (name : Word) (text answer : List ℕ) → IsMisspelledAnswer names name text answer → HasNoLf answer
misspelled_line names name text answer h = text_line text h.refusal h.place answer h.written

bad_expression_line : (names : List (List ℕ)) (name : Word) (text answer : List ℕ) → IsBadExpression names name text answer → HasNoLf answer
bad_expression_line names name text answer (inl strange) = rw strange.1 (refusal_line F.UnknownReplica)
bad_expression_line names name text answer (inr misspelled) = misspelled_line names name text answer misspelled

bad_name_line : (names : List (List ℕ)) (name : Option Word) (answer : List ℕ) → IsBadName names name answer → HasNoLf answer
bad_name_line names None answer h = absurd h
bad_name_line names (Some name) answer h = rw h.1 (refusal_line F.UnknownReplica)

bad_look_line : (names : List (List ℕ)) (request : Asked) (answer : List ℕ) → IsBadLook names request answer → HasNoLf answer
bad_look_line names (K.view at name) answer h = bad_name_line names name answer h
bad_look_line names (K.view_place at name text) answer h = bad_expression_line names name text answer h
bad_look_line names (K.state_at at name) answer h = bad_name_line names name answer h
bad_look_line names (K.brief at name) answer h = rw h.1 (refusal_line F.UnknownReplica)
bad_look_line names (K.eval at name text) answer h = bad_expression_line names name text answer h
bad_look_line names request answer h = absurd h

bad_line : (s : Scenario) (request : Asked) (answer : List ℕ) → IsBadRequest s request answer → HasNoLf answer
bad_line s request answer (N.no_rule none) = refusal_line F.BadLine
bad_line s request answer (N.strange_break strange) = refusal_line F.UnknownReplica
bad_line s request answer (N.strange_state strange) = refusal_line F.UnknownReplica
bad_line s request answer (N.strange_first strange) = refusal_line F.UnknownReplica
bad_line s request answer (N.strange_second strange) = refusal_line F.UnknownReplica
bad_line s request answer (N.strange_maker strange) = refusal_line F.UnknownReplica
bad_line s request answer (N.misspelled {rest = rest} {refusal = refusal} {at = at} misspelled written) = text_line rest refusal at answer written
bad_line s request answer (N.bad_look bad) = bad_look_line s.names request answer bad
bad_line s request answer (N.bad_place {name = name} {text = text} bad) = bad_expression_line s.names name text answer bad

-- ---- where a given event is stuck

stuck_text_line : (text : List ℕ) (s : Scenario) (stop : GivenStop s) (request : Asked) (answer : List ℕ) → AnswersStuck text s stop request answer → HasNoLf answer
stuck_text_line text s stop request answer N.quits = quit_line
stuck_text_line text s stop request answer (N.places are) = places_line text answer are
stuck_text_line text s stop request answer N.prints = canon_quoted (canon s)
stuck_text_line text s stop request answer (N.journal {rules} {effects} {between} told) = journal_line (details rules effects) s s.schedule between answer told
stuck_text_line text s stop request answer (N.shows look to asks shown) = look_line s.names to.network.states look answer shown
stuck_text_line text s stop request answer (N.event {at} {rules} {effects} to told) = event_line (details rules effects) s s.schedule 0 (Some at) answer told
stuck_text_line text s stop request answer (N.bad bad) = bad_line s request answer bad
stuck_text_line text s stop request answer (N.nowhere {refusal = refusal} good none) = refusal_line refusal
stuck_text_line text s stop request answer (N.stuck good none other unreached) = given_stuck_line s stop

-- ---- breakpoints

sets_line : (A : Served) (b : Mark) (B : Served) (answer : List ℕ) → SetsMark A b B answer → HasNoLf answer
sets_line A b B answer (N.set {j} least) = object_line (number_member (codes "set") (j + 1)) (decimal_line (j + 1), tt)
sets_line A b B answer (N.none_free none) = refusal_line F.TooManyBreaks

cursor_line : (names : List (List ℕ)) (c : Cursor) → HasNoLf (cursor_text names c)
unfolding cursor_text
cursor_line names c = compact_line (cursor_data names c)

named_lines : (kind : List ℕ) (number : ℕ) (name : List ℕ) → HaveLines (named_mark kind number name)
named_lines kind number name = (canon_quoted kind, (decimal_line number, (canon_quoted name, tt)))

mark_lines : (names : List (List ℕ)) (number : ℕ) (b : Mark) → HaveLines (mark_members names number b)
mark_lines names number (of_session (Kind.Position n)) = (decimal_line n, (canon_quoted (codes "at"), (decimal_line number, tt)))
mark_lines names number (of_session (Kind.Rule rule)) = named_lines (codes "rule") number (rule_name rule)
mark_lines names number (of_session (Kind.Replica p)) = named_lines (codes "replica") number (name_at names p)
mark_lines names number (operation i) = named_lines (codes "op") number (id_text names i)
mark_lines names number (place p c) = (cursor_line names c, (canon_quoted (codes "place"), (decimal_line number, (canon_quoted (name_at names p), tt))))

marks_lines : (names : List (List ℕ)) (number : ℕ) (marks : List (Option Mark)) → AreLines (mark_answers names number marks)
marks_lines names number [] = tt
marks_lines names number (None ∷ marks) = marks_lines names (suc number) marks
marks_lines names number (Some b ∷ marks) = (object_line (mark_members names number b) (mark_lines names number b), marks_lines names (suc number) marks)

no_place_line : (names : List (List ℕ)) (states : List State) (name : Word) (text answer : List ℕ) → IsNoPlace names states name text answer → HasNoLf answer
no_place_line names states name text answer (N.bad bad) = bad_expression_line names name text answer bad
no_place_line names states name text answer (N.no_value {why} p e named is refused) = no_value_line names why
no_place_line names states name text answer (N.no_cursor p e b named is gives none) = refusal_line F.NotACursor

place_line : (names : List (List ℕ)) (states : List State) (A : Served) (name : Word) (text : List ℕ) (B : Served) (answer : List ℕ) → SetsPlace names states A name text B answer → HasNoLf answer
place_line names states A name text B answer (N.refuses none) = no_place_line names states name text answer none
place_line names states A name text B answer (N.sets {p} {c} is sets) = sets_line A (place p c) B answer sets

-- ---- looks

looks_line : (s : Scenario) (schedule : List Event) (position : ℕ) (at : Option Position) (look : Look) (answer : List ℕ) → LooksAt s schedule position at look answer → HasNoLf answer
looks_line s schedule position at look answer (G.nowhere {refusal} is) = refusal_line refusal
looks_line s schedule position at look answer (G.unreached {stop = stop} {network = network} {event = event} {why = why} is before stops) =
    unreached_line s schedule stop network why event
looks_line s schedule position at look answer (G.shows {network = network} is at_it shown) = look_line s.names network.states look answer shown

shown_line : (s : Scenario) (schedule : List Event) (position : ℕ) (request : Asked) (answer : List ℕ) → AnswersLook s schedule position request answer → HasNoLf answer
shown_line s schedule position request answer (G.bad bad) = bad_look_line s.names request answer bad
shown_line s schedule position request answer (G.looks {at} {look} asks told) = looks_line s schedule position at look answer told

-- ---- where there is a session

back_line : (s : Scenario) (schedule : List Event) (n : ℕ) (end : Option ℕ) → HasNoLf (move_answer (background s schedule []) n (at_mark end) (at_start end))
back_line s schedule n (Some j) = move_line (background s schedule []) n (at_mark (Some j)) [] (decimal_line (j + 1), tt) tt
back_line s schedule n None = move_line (background s schedule []) n [] (at_start None) tt (literal (codes "true") refl, tt)

served_line : (text : List ℕ) (s : Scenario) (start : Network) (A : Served) (request : Asked) (B : Served) (answer : List ℕ) → AnswersServed text s start A request B answer → HasNoLf answer
served_line text s start A request B answer N.quits = quit_line
served_line text s start A request B answer (N.places are) = places_line text answer are
served_line text s start A request B answer N.prints = canon_quoted (canon (record s { schedule = A.schedule }))
served_line text s start A request B answer (N.weaves {seed} {limit} woven) = woven_line s seed limit answer woven
served_line text s start A request B answer (N.replies {request = q} {B = C} {reply = reply} network other replies there told) =
    reply_line (background s C.schedule network.states) (event_text q) reply answer told
served_line text s start A request B answer (N.goes_to_end goes) = served_line text s start A _ _ answer goes
served_line text s start A request B answer (N.runs {n} {end} network other runs there told) =
    reply_line (background s A.schedule network.states) [] (Y.ran n end) answer told
served_line text s start A request B answer (N.runs_past is) = refusal_line F.AtEnd
served_line text s start A request B answer (N.runs_back {n} {end} other runs) = back_line s A.schedule n end
served_line text s start A request B answer (N.runs_back_past is) = refusal_line F.AtStart
served_line text s start A request B answer (N.breaks_at sets) = sets_line A _ _ answer sets
served_line text s start A request B answer (N.breaks_rule rule known is sets) = sets_line A _ _ answer sets
served_line text s start A request B answer (N.breaks_replica p named sets) = sets_line A _ _ answer sets
served_line text s start A request B answer (N.breaks_op named sets) = sets_line A _ _ answer sets
served_line text s start A request B answer (N.breaks_place {name = name} {expression = expression} {network = network} there told) =
    place_line s.names network.states A name expression _ answer told
served_line text s start A request B answer (N.clears j b is) = object_line (number_member (codes "cleared") (j + 1)) (decimal_line (j + 1), tt)
served_line text s start A request B answer (N.no_break none) = refusal_line F.NoSuchBreak
served_line text s start A request B answer N.lists_breaks = array_line (mark_answers s.names 1 A.marks) (marks_lines s.names 1 A.marks)
served_line text s start A request B answer (N.bad bad) = bad_line s request answer bad
served_line text s start A request B answer (N.looks told) = shown_line s A.schedule A.position request answer told
served_line text s start A request B answer (N.tells_event {at} {rules} {effects} told) = event_line (details rules effects) s A.schedule A.position at answer told
served_line text s start A request B answer (N.tells_journal {rules} {effects} {between} told) = journal_line (details rules effects) s A.schedule between answer told

-- ---- any text, any request

pub about_line : (text : List ℕ) (subject : Subject) (request : Asked) (next : Subject) (answer : List ℕ) → AnswersAbout text subject request next answer → HasNoLf answer
about_line text subject request next answer (N.of_refused {fault} told) = refused_text_line text fault request answer told
about_line text subject request next answer (N.of_stuck {s} {stop} told) = stuck_text_line text s stop request answer told
about_line text subject request next answer (N.of_served {s} {start} {A} {B} told) = served_line text s start A request B answer told

pub turn_line : (H : Held) (turn : Turn) (I : Held) (answer : List ℕ) → AnswersTurn H turn I answer → HasNoLf answer
turn_line H turn I answer (S.refuses none) = refusal_line F.BadLine
turn_line H turn I answer (S.answers {subject = subject} request is told) = about_line H.text H.subject request subject answer told
turn_line H turn I answer (S.brings_text {bytes = bytes} {subject = subject} is told) = brought_line bytes subject answer told

pub turns_lines : (H : Held) (turns : List Turn) (I : Held) (text : List ℕ) → AnswersTurns H turns I text → lf_count text ≡ length turns
turns_lines H [] I text h = ap lf_count h.1
turns_lines H (turn ∷ turns) I text (M, answer, rest, first, more, is) =
    let whole = ap lf_count is in
    let parts = lf_append answer (10 ∷ rest) in
    let none = (turn_line H turn M answer first).none in
    let others = turns_lines M turns I rest more in
    let one : lf_count (10 ∷ rest) ≡ suc (lf_count rest) = refl in
    omega (arith, whole, parts, none, others, one)
