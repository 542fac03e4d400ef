-- Of `ReplyTexts`: positions with their events, and the members of an answer to a move.
use Rattle.std.proofs.Common.{◌≡◌, ℕ, zero, suc, ◌+◌, ◌-◌, false, List, [], ◌∷◌, ◌++◌, length, Option, Some, None, codes, refl, ap, sym, ◌∙◌, append-nil}
use Rattle.std.specs.List.{All}
use Rattle.jc_rules.specs.declared.operation.Event.{Event}
use Rattle.jc_rules.specs.Refused.{Cause}
use Rattle.jc_printer.specs.Canon.{AreNamed, canon_event}
use Rattle.jc_network.specs.declared.fault.Stuck.{Stuck}
use Rattle.jc_network.specs.NetworkHistory.{NetworkHistory}
use Rattle.jc_network.specs.Steps.{stuck_for}
use Rattle.jc_journal.specs.StuckLine.{stuck_event_line}
use Rattle.jc_debug.specs.declared.fault.RunEnd.TheVariants as E
use Rattle.jc_debug.specs.DebuggerState.{RunOutcome}
use Rattle.jc_debug.specs.Invariant.{Seen}
use Rattle.jc_debug.specs.Moves.{IsEnd}
use Rattle.jc_session.proofs.AnswerOfLemmas.{of_all}
use Rattle.jc_answers.specs.declared.objects.Member.{Member}
use Rattle.jc_answers.specs.JsonTexts.{NamedText, unended, number_member, string_member, text_member, object_text}
use Rattle.jc_answers.specs.Parts.{member_of, members_of}
use Rattle.jc_replies.specs.ReplyTexts.{Background, true_member, event_to, event_member, stuck_member, move_answer, ran_answer}
use Rattle.jc_replies.specs.AnswerOf.{background_of}

-- ---- events of positions

pub event_named : (B : Background) (n size : ℕ) (event : Event) → All (λ e. AreNamed e size) B.given → All (λ e. AreNamed e size) B.schedule → event_to B n ≡ Some event → AreNamed event size
event_named B zero size event given schedule is = of_all (λ e. AreNamed e size) B.given (length B.given - 1) event given is
event_named B (suc n) size event given schedule is = of_all (λ e. AreNamed e size) B.schedule n event schedule is

-- ---- members

pub three_members : (p q r : Member) (a b c : List NamedText) → member_of p ≡ a → member_of q ≡ b → member_of r ≡ c → members_of (p ∷ q ∷ r ∷ []) ≡ a ++ (b ++ c)
three_members p q r a b c x y z = (λ i. x i ++ (y i ++ (z i ++ []))) ∙ ap (λ rest. a ++ (b ++ rest)) (append-nil c)

four_members : (p q r s : Member) (a b c d : List NamedText) → member_of p ≡ a → member_of q ≡ b → member_of r ≡ c → member_of s ≡ d → members_of (p ∷ q ∷ r ∷ s ∷ []) ≡ a ++ (b ++ (c ++ d))
four_members p q r s a b c d x y z w = (λ i. x i ++ (y i ++ (z i ++ (w i ++ [])))) ∙ ap (λ rest. a ++ (b ++ (c ++ rest))) (append-nil d)

pub move_with_event : (B : Background) (n : ℕ) (event : Event) (names : List (List ℕ)) (at end told more : Member) (text items : List ℕ)
    → names ≡ B.names
    → event_to B n ≡ Some event
    → member_of at ≡ number_member (codes "at") n
    → text ≡ canon_event names event
    → member_of told ≡ string_member (codes "event") text
    → items ≡ object_text (members_of (at ∷ end ∷ told ∷ more ∷ []))
    → items ≡ move_answer B n (member_of end) (member_of more)
move_with_event B n event names at end told more text items named is number spelled string written =
    let here : member_of told ≡ string_member (codes "event") (canon_event B.names event) =
    string ∙ ap (string_member (codes "event")) (spelled ∙ ap (λ ns. canon_event ns event) named) in
    written
    ∙ ap object_text (four_members at end told more (number_member (codes "at") n) (member_of end) (string_member (codes "event") (canon_event B.names event)) (member_of more) number refl here refl)
    ∙ ap (λ (o : Option Event). object_text (number_member (codes "at") n ++ (member_of end ++ (event_member B.names o ++ member_of more)))) (sym is)

pub move_without_event : (B : Background) (n : ℕ) (at end more : Member) (items : List ℕ)
    → event_to B n ≡ None
    → member_of at ≡ number_member (codes "at") n
    → items ≡ object_text (members_of (at ∷ end ∷ more ∷ []))
    → items ≡ move_answer B n (member_of end) (member_of more)
move_without_event B n at end more items is number written =
    written
    ∙ ap object_text (three_members at end more (number_member (codes "at") n) (member_of end) (member_of more) number refl refl)
    ∙ ap (λ (o : Option Event). object_text (number_member (codes "at") n ++ (member_of end ++ (event_member B.names o ++ member_of more)))) (sym is)

-- ---- stuck events

pub stuck_told : (given : List Event) (d : Seen) (net : NetworkHistory) (s : Stuck) (n : ℕ) (line text : List ℕ) (end more : Member) (items : List ℕ)
    → net ≡ d.net
    → n ≡ length d.traces
    → text ≡ unended line
    → ((why : Cause) → s ≡ stuck_for why s.event → line ≡ stuck_event_line net.names false (n + 1) net.history.now.states why s.event)
    → member_of end ≡ []
    → member_of more ≡ text_member (codes "stuck") text
    → items ≡ move_answer (background_of given d) (length d.traces) (member_of end) (member_of more)
    → (why : Cause) (event : Event)
    → s ≡ stuck_for why event
    → items ≡ move_answer (background_of given d) (length d.traces) [] (stuck_member (background_of given d) (length d.traces) why event)
stuck_told given d net s n line text end more items same at cut lined none told written why event is =
    let event_is : s.event ≡ event = ap (λ (x : Stuck). x.event) is in
    let here : s ≡ stuck_for why s.event = is ∙ ap (stuck_for why) (sym event_is) in
    let line_is : line ≡ stuck_event_line d.net.names false (length d.traces + 1) d.net.history.now.states why event =
    lined why here ∙ (λ i. stuck_event_line (same i).names false (at i + 1) (same i).history.now.states why (event_is i)) in
    let more_is : member_of more ≡ stuck_member (background_of given d) (length d.traces) why event =
    told ∙ ap (text_member (codes "stuck")) (cut ∙ ap unended line_is) in
    written ∙ (λ i. move_answer (background_of given d) (length d.traces) (none i) (more_is i))

-- ---- runs

pub ran_break : (B : Background) (n k : ℕ) (end more : Member) (items : List ℕ)
    → member_of end ≡ number_member (codes "break") k
    → member_of more ≡ []
    → items ≡ move_answer B n (member_of end) (member_of more)
    → (outcome : RunOutcome) → IsEnd (E.Break k) outcome → items ≡ ran_answer B n outcome
ran_break B n k end more items told none written outcome (j, number, is) =
    written ∙ (λ i. move_answer B n (told i) (none i)) ∙ ap (λ (m : ℕ). move_answer B n (number_member (codes "break") m) []) number ∙ ap (ran_answer B n) (sym is)

pub ran_stuck : (B : Background) (n : ℕ) (s : Stuck) (items : List ℕ)
    → ((why : Cause) (event : Event) → s ≡ stuck_for why event → items ≡ move_answer B n [] (stuck_member B n why event))
    → (outcome : RunOutcome) → IsEnd (E.Stuck s) outcome → items ≡ ran_answer B n outcome
ran_stuck B n s items h outcome (why, event, told, is) = h why event told ∙ ap (ran_answer B n) (sym is)

pub ran_end : (B : Background) (n : ℕ) (end more : Member) (items : List ℕ)
    → member_of end ≡ true_member (codes "end")
    → member_of more ≡ []
    → items ≡ move_answer B n (member_of end) (member_of more)
    → (outcome : RunOutcome) → IsEnd E.End outcome → items ≡ ran_answer B n outcome
ran_end B n end more items told none written outcome is = written ∙ (λ i. move_answer B n (told i) (none i)) ∙ ap (ran_answer B n) (sym is)
