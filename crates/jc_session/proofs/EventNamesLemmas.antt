-- Of `AnswerOf`: the events of a debugger's schedule name its replicas.
use Rattle.std.proofs.Common.{◌≡◌, ℕ, ◌+◌, ◌<◌, List, [], ◌∷◌, length, take, Option, Some, Contains, slice_get, sym, subst, arith}
use Rattle.std.specs.List.{All}
use Rattle.std.proofs.lemmas.Option.{slice_get_within}
use Rattle.std.proofs.lemmas.List.Elements.{All-nil, All-cons, All-append, All-take}
use Rattle.jc_rules.specs.declared.operation.Event.{Event}
use Rattle.jc_rules.specs.State.{State}
use Rattle.jc_rules.specs.Step.{Network}
use Rattle.jc_printer.specs.Canon.{AreNamed}
use Rattle.jc_network.specs.Enabled.{AreChosen, no_more, chosen, left_out, AreEnabled, candidates}
use Rattle.jc_network.specs.Laws.{starts}
use Rattle.jc_network.specs.RunInvariant.{HasSoundOps}
use Rattle.jc_network.specs.Invariant.{IsFromStart}
use Rattle.jc_network.proofs.EnabledLemmas.{IsEventOf, of_exec, of_send, of_recv, of_take, of_apply, of_done, in_from}
use Rattle.jc_network.proofs.MembersLemmas.{first_in, later_in}
use Rattle.jc_network.proofs.RunInvariantStartLemmas.{start_well, after_well}
use Rattle.jc_debug.specs.DebuggerState.{Session, StuckEvent, GoesTo, arrives, stops, RunOutcome, sticks, Runs}
use Rattle.jc_session.specs.Lines.{Line}
use Rattle.jc_session.specs.Requests.{Request}
use Rattle.jc_session.specs.Reply as Y
use Rattle.jc_session.specs.Reply.{Reply}
use Rattle.jc_session.specs.Answers as N
use Rattle.jc_session.specs.Answers.{Origin, Replies, ActsOn, Sets, LineAnswer}
use Rattle.jc_session.proofs.AnswerOfLemmas.{of_all}

-- ---- events that can be made

-- the event of a replica that is there
of_kind : (M : Network) (p q : ℕ) (e : Event) (A : State) → HasSoundOps M.states → slice_get M.states p ≡ Some A → q ≡ p → IsEventOf M q A.recv e → AreNamed e (length M.states)
of_kind M p q e A h there s event = go event
  where
    own : q < length M.states
    own = subst (λ (m : ℕ). m < length M.states) (sym s) (slice_get_within M.states p A there)

    go : IsEventOf M q A.recv e → AreNamed e (length M.states)
    go (of_exec w) = subst (λ (x : Event). AreNamed x (length M.states)) (sym w) own
    go (of_send w) = subst (λ (x : Event). AreNamed x (length M.states)) (sym w) own
    go (of_recv r l w) = subst (λ (x : Event). AreNamed x (length M.states)) (sym w) (own, l)
    go (of_take t) =
        let made = (h.sent t.sender t.at t.op t.there t.offered).1 in
        subst (λ (x : Event). AreNamed x (length M.states)) (sym t.is)
        (own, slice_get_within M.states t.sender t.at t.there, slice_get_within M.states t.op.id.replica made.at made.there)
    go (of_apply o k w) =
        let made = h.received p A o there k in
        subst (λ (x : Event). AreNamed x (length M.states)) (sym w) (own, slice_get_within M.states o.id.replica made.at made.there)
    go (of_done w) = subst (λ (x : Event). AreNamed x (length M.states)) (sym w) own

chosen_named : {Yes No : Event → Type 0} {cs ls : List Event} (P : Event → Type 0) → AreChosen Yes No cs ls → ((e : Event) → Contains cs e → P e) → All P ls
chosen_named P no_more f = All-nil P
chosen_named P (chosen {event = e} {asked = cs} {listed = ls} y a) f = All-cons P e ls (f e (first_in e cs)) (chosen_named P a (λ x k. f x (later_in x e cs k)))
chosen_named P (left_out {event = e} {asked = cs} n a) f = chosen_named P a (λ x k. f x (later_in x e cs k))

-- each event that can be made names replicas of the network
pub enabled_named : (M : Network) (events : List Event) (n : ℕ) → n ≡ length M.states → IsFromStart M.states → AreEnabled M (candidates M) events → All (λ e. AreNamed e n) events
enabled_named M events n same r h =
    let well = after_well (starts r.0) r.1.0 M.states (start_well r.0) r.1.1 in
    subst (λ (m : ℕ). All (λ e. AreNamed e m) events) (sym same)
    (chosen_named (λ e. AreNamed e (length M.states)) h (λ e k.
    let x = in_from M 0 M.states e k in
    of_kind M x.0 x.1.number e x.1.at well.sets x.1.there (omega (arith, x.1.is)) x.1.event))

-- ---- events of a schedule, and events that are stuck

-- the event at which a move or a run stopped names replicas
abbrev pub IsNamedIn : ℕ → Reply → Type 0
IsNamedIn n (Y.went p (Some (event, why))) = AreNamed event n
IsNamedIn n (Y.ran p (sticks event why)) = AreNamed event n
IsNamedIn n _ = Unit {0}

-- and each event of the schedule does
abbrev pub AllNamedIn : ℕ → Session → Reply → Type 0
AllNamedIn n B reply = All (λ x. AreNamed x n) B.schedule × IsNamedIn n reply

goes_named : (O : Origin) (A : Session) (to p : ℕ) (end : Option StuckEvent) → GoesTo O.start A.schedule A.position to p end → All (λ x. AreNamed x (length O.names)) A.schedule → IsNamedIn (length O.names) (Y.went p end)
goes_named O A to p end (arrives is) h = tt
goes_named O A to p end (stops {event} le lt stuck) h = of_all (λ x. AreNamed x (length O.names)) A.schedule p event h stuck.is

ran_named : (O : Origin) (A : Session) (p : ℕ) (end : RunOutcome) → Runs O.start A p end → All (λ x. AreNamed x (length O.names)) A.schedule → IsNamedIn (length O.names) (Y.ran p end)
ran_named O A p (sticks event why) r h = let at = r.at in of_all (λ x. AreNamed x (length O.names)) A.schedule p event h at.1.is
ran_named O A p _ r h = tt

acts_named : (O : Origin) (A B : Session) (e : Event) (reply : Reply) → AreNamed e (length O.names) → ActsOn O A e B reply → All (λ x. AreNamed x (length O.names)) A.schedule → AllNamedIn (length O.names) B reply
acts_named O A B e reply named (N.full is) h = (h, tt)
acts_named O A B e reply named (N.stuck why network lt is stuck) h = (h, named)
acts_named O A B e reply named (N.made network new rows lt is step) h =
    let P : Event → Type 0 = λ x. AreNamed x (length O.names) in
    (All-append P (take A.position A.schedule) (e ∷ []) (All-take P A.position A.schedule h) (All-cons P e [] named (All-nil P)), tt)

sets_named : (n : ℕ) (A B : Session) (b : _) (reply : Reply) → Sets A b B reply → All (λ x. AreNamed x n) A.schedule → AllNamedIn n B reply
sets_named n A B b reply (N.set least) h = (h, tt)
sets_named n A B b reply (N.none_free none) h = (h, tt)

-- a request leaves them named
pub replies_named : (O : Origin) (A B : Session) (request : Request) (reply : Reply) → Replies O A request B reply → All (λ x. AreNamed x (length O.names)) A.schedule → AllNamedIn (length O.names) B reply
replies_named O A B request reply (N.steps {n} {p} {end} le goes) h = (h, goes_named O A (A.position + n) p end goes h)
replies_named O A B request reply (N.goes_to {n} {p} {end} le goes) h = (h, goes_named O A n p end goes h)
replies_named O A B request reply (N.acts event spelled acts) h = acts_named O A B event reply spelled.resolved.known acts h
replies_named O A B request reply (N.runs {n} {end} lt runs) h = (h, ran_named O A n end runs h)
replies_named O A B request reply (N.breaks_at sets) h = sets_named (length O.names) A B _ reply sets h
replies_named O A B request reply (N.breaks_rule rule has is sets) h = sets_named (length O.names) A B _ reply sets h
replies_named O A B request reply (N.breaks_replica p is sets) h = sets_named (length O.names) A B _ reply sets h
replies_named O A B request reply _ h = (h, tt)

pub answer_named : (O : Origin) (A B : Session) (line : Line) (text : List ℕ) → LineAnswer O A line B text → All (λ x. AreNamed x (length O.names)) A.schedule → All (λ x. AreNamed x (length O.names)) B.schedule
answer_named O A B line text (N.replies {reply} request is replies) h = (replies_named O A B request reply replies h).0
answer_named O A B line text _ h = h
