-- Of `AnswerOf`: what stands for a reply has its answer.
use Rattle.std.proofs.Common.{◌≡◌, ℕ, List, [], length, slice_get, Option, Some, None, unwrap_or, codes, subst, ap, sym, ◌∙◌}
use Rattle.jc_rules.specs.declared.operation.Event.{Event}
use Rattle.jc_rules.specs.Refused.{Cause}
use Rattle.jc_rules.specs.ReplicaNames.{name_at}
use Rattle.jc_rules.specs.State.{State}
use Rattle.jc_network.specs.declared.fault.Stuck.{Stuck}
use Rattle.jc_network.specs.Enabled.{AreEnabled, candidates}
use Rattle.jc_network.specs.NetworkHistory.{NetworkHistory}
use Rattle.jc_network.specs.Steps.{stuck_for}
use Rattle.jc_debug.specs.declared.fault.RunEnd.{RunEnd}
use Rattle.jc_debug.specs.DebuggerState.{RunOutcome}
use Rattle.jc_debug.specs.Invariant.{Seen}
use Rattle.jc_debug.specs.Moves.{IsEnd}
use Rattle.jc_session.specs.declared.replies.Reply.TheVariants as R
use Rattle.jc_session.specs.AnswerOf.{IsReply}
use Rattle.jc_session.specs.Reply as Y
use Rattle.jc_session.specs.Reply.{Reply}
use Rattle.jc_answers.specs.declared.objects.Member.{Member}
use Rattle.jc_answers.specs.JsonTexts.{number_member, array_text}
use Rattle.jc_answers.specs.Parts.{member_of}
use Rattle.jc_looks.specs.Looks.{state_text, texts_from}
use Rattle.jc_replies.specs.ReplyTexts.{Background, stuck_member, move_answer, ran_answer, events_answer, IsAnswer}
use Rattle.jc_replies.specs.AnswerOf.{background_of}

pub told : (B : Background) (text answer : List ℕ) (due reply : Reply) → IsAnswer B text due answer → reply ≡ due → IsAnswer B text reply answer
told B text answer due reply h is = subst (λ (r : Reply). IsAnswer B text r answer) (sym is) h

pub went_told : (given : List Event) (d : Seen) (text : List ℕ) (n : ℕ) (end more : Member) (items : List ℕ)
    → n ≡ length d.traces
    → member_of end ≡ []
    → member_of more ≡ []
    → items ≡ move_answer (background_of given d) (length d.traces) (member_of end) (member_of more)
    → (r : Reply) → IsReply d (R.Went n) r → IsAnswer (background_of given d) text r items
went_told given d text n end more items at none nothing written r is =
    told (background_of given d) text items (Y.went n None) r (written ∙ (λ i. move_answer (background_of given d) (sym at i) (none i) (nothing i))) is

pub stuck_answered : (given : List Event) (d : Seen) (text : List ℕ) (n : ℕ) (s : Stuck) (items : List ℕ)
    → n ≡ length d.traces
    → ((why : Cause) (event : Event) → s ≡ stuck_for why event → items ≡ move_answer (background_of given d) (length d.traces) [] (stuck_member (background_of given d) (length d.traces) why event))
    → (r : Reply) → IsReply d (R.Stuck n s) r → IsAnswer (background_of given d) text r items
stuck_answered given d text n s items at h r (why, event, is, due) =
    told (background_of given d) text items (Y.went n (Some (event, why))) r
    (h why event is ∙ ap (λ (m : ℕ). move_answer (background_of given d) m [] (stuck_member (background_of given d) m why event)) (sym at)) due

pub ran_told : (given : List Event) (d : Seen) (text : List ℕ) (n : ℕ) (end : RunEnd) (items : List ℕ)
    → n ≡ length d.traces
    → ((outcome : RunOutcome) → IsEnd end outcome → items ≡ ran_answer (background_of given d) (length d.traces) outcome)
    → (r : Reply) → IsReply d (R.Ran n end) r → IsAnswer (background_of given d) text r items
ran_told given d text n end items at h r (outcome, is, due) =
    told (background_of given d) text items (Y.ran n outcome) r
    (h outcome is ∙ ap (λ (m : ℕ). ran_answer (background_of given d) m outcome) (sym at)) due

pub states_told : (given : List Event) (d : Seen) (text : List ℕ) (net : NetworkHistory) (items : List ℕ)
    → net ≡ d.net
    → items ≡ array_text (texts_from state_text 0 net.names net.history.now.states)
    → (r : Reply) → IsReply d R.States r → IsAnswer (background_of given d) text r items
states_told given d text net items same h r due =
    told (background_of given d) text items (Y.states d.net.history.now.states) r
    (h ∙ ap (λ (c : NetworkHistory). array_text (texts_from state_text 0 c.names c.history.now.states)) same) due

pub state_told : (given : List Event) (d : Seen) (text : List ℕ) (net : NetworkHistory) (p : ℕ) (items : List ℕ)
    → net ≡ d.net
    → ((C : State) → slice_get net.history.now.states p ≡ Some C → items ≡ state_text net.names (name_at net.names p) C)
    → (r : Reply) → IsReply d (R.StateOf p) r → IsAnswer (background_of given d) text r items
state_told given d text net p items same h r (name, C, named, there, due) =
    let at = subst (λ (c : NetworkHistory). slice_get c.history.now.states p ≡ Some C) (sym same) there in
    let called : name_at d.net.names p ≡ name = ap (λ (o : Option (List ℕ)). unwrap_or o []) named in
    told (background_of given d) text items (Y.state_of name C) r
    (h C at ∙ ap (λ (c : NetworkHistory). state_text c.names (name_at c.names p) C) same ∙ ap (λ (x : List ℕ). state_text d.net.names x C) called) due

pub enabled_answered : (given : List Event) (d : Seen) (text : List ℕ) (net : NetworkHistory) (items : List ℕ)
    → net ≡ d.net
    → ((events : List Event) → AreEnabled net.history.now (candidates net.history.now) events → items ≡ events_answer net.names events)
    → (r : Reply) → IsReply d R.Enabled r → IsAnswer (background_of given d) text r items
enabled_answered given d text net items same h r (events, are, due) =
    let here = subst (λ (c : NetworkHistory). AreEnabled c.history.now (candidates c.history.now) events) (sym same) are in
    told (background_of given d) text items (Y.enabled events) r (h events here ∙ ap (λ (c : NetworkHistory). events_answer c.names events) same) due

pub schedule_told : (given : List Event) (d : Seen) (text : List ℕ) (net : NetworkHistory) (names : List (List ℕ)) (events : List Event) (items : List ℕ)
    → net ≡ d.net
    → names ≡ net.names
    → events ≡ d.schedule
    → items ≡ events_answer names events
    → (r : Reply) → IsReply d R.Schedule r → IsAnswer (background_of given d) text r items
schedule_told given d text net names events items same is listed h r due =
    let known : names ≡ d.net.names = is ∙ ap (λ (c : NetworkHistory). c.names) same in
    told (background_of given d) text items (Y.scheduled d.schedule) r (h ∙ (λ i. events_answer (known i) (listed i))) due

pub position_told : (given : List Event) (d : Seen) (text : List ℕ) (size : ℕ) (end more : Member) (items : List ℕ)
    → size ≡ length d.schedule
    → member_of end ≡ []
    → member_of more ≡ number_member (codes "of") size
    → items ≡ move_answer (background_of given d) (length d.traces) (member_of end) (member_of more)
    → (r : Reply) → IsReply d R.Position r → IsAnswer (background_of given d) text r items
position_told given d text size end more items of none told_of written r due =
    told (background_of given d) text items (Y.stands (length d.traces) (length d.schedule)) r
    (written ∙ (λ i. move_answer (background_of given d) (length d.traces) (none i) ((told_of ∙ ap (number_member (codes "of")) of) i))) due
