-- Lemmas about Steps: what replicas return, as events of a network.
use Rattle.std.proofs.Common.{◌≡◌, ℕ, zero, suc, ◌<◌, ◌≤◌, List, [], ◌∷◌, ◌++◌, Option, Some, None, IfSome, IsErrAnd, Result, Err, inl, inr, option_map, length, slice_get, slice_set, slice_index_or, refl, sym, ◌∙◌, ap, subst, arith}
use Rattle.std.proofs.lemmas.List.{length-map}
use Rattle.std.proofs.lemmas.Option.{slice_get-map, slice_get_past}
use Rattle.jc_rules.specs.declared.operation.Event.{Event}
use Rattle.jc_rules.specs.declared.operation.Event.TheVariants as V
use Rattle.jc_rules.specs.declared.id.Id.{Id}
use Rattle.jc_rules.specs.declared.operation.Op.{Op}
use Rattle.jc_rules.specs.declared.version.Version.{Version}
use Rattle.jc_rules.specs.declared.refusal.Refusal.TheVariants.{NoSuchReplica, WrongVersion}
use Rattle.jc_rules.specs.Refused.{Cause, because, IsStuckIn, replica_missing, sender_missing, wrong_version}
use Rattle.jc_rules.specs.State.{State}
use Rattle.jc_rules.specs.Step.{replica_of, read_by, send_of}
use Rattle.jc_rules.specs.Syntax.{Cmd}
use Rattle.jc_rules.specs.Trace.{Rows}
use Rattle.jc_rules.specs.Version.{Allows}
use Rattle.jc_rules.proofs.VersionLemmas.{stuck_in, after_states}
use Rattle.jc_replica.specs.declared.fault.ReplicaFault.{ReplicaFault}
use Rattle.jc_replica.specs.Answers.{AnswersEvent, RefusedFor, fault_cause_of}
use Rattle.jc_replica.specs.ReplicaHistory.{ReplicaHistory}
use Rattle.jc_network.specs.declared.fault.StepFault.{StepFault}
use Rattle.jc_network.specs.declared.fault.StepFault.TheVariants as E
use Rattle.jc_network.specs.declared.fault.Stuck.{Stuck}
use Rattle.jc_network.specs.NetworkHistory.{kept_of, network_of, of_version}
use Rattle.jc_network.specs.Laws.{starts, IsReached}
use Rattle.jc_replica.specs.Received.{receiving_event}
use Rattle.jc_network.specs.Steps.{stuck_for, fault_for, IsStuckFor, sent_by, Moves, ActsReplica, HasReplicas, IsMissing, IsRefusedBy, Stops, stops_missing, stops_version, stops_refused, MakesStep, sender_of}
use Rattle.jc_network.specs.RunInvariant.{IsWell}
use Rattle.jc_network.specs.Invariant.{IsInRun, AreNumbered}
use Rattle.jc_network.proofs.AfterLemmas.{after_more}
use Rattle.jc_network.proofs.HalvesLemmas.{index_get}
use Rattle.jc_network.proofs.MembersLemmas.{some_at}
use Rattle.jc_network.proofs.RefinesLemmas.{is_stuck}
use Rattle.jc_network.proofs.RunInvariantStartLemmas.{start_well, after_well}

pub well : (scripts : List _) (network : List State) → IsReached scripts network → IsWell network
well scripts network r = after_well (starts scripts) r.0 network (start_well scripts) r.1

-- what events of a version led to is reached
pub reached : (version : Version) (scripts : List (List Cmd)) (first network kept : List State) → IsInRun version scripts first network kept → IsReached scripts network
reached version scripts first network kept run =
    let start = of_version version (starts scripts) in
    let now = of_version version network in
    (run.given ++ run.events, after_states start (run.given ++ run.events) now (after_more start run.given (of_version version first) run.events now run.before run.led))

pub kept_there : (ps : List ReplicaHistory) (p : ℕ) (replica : ReplicaHistory) → slice_get ps p ≡ Some replica → slice_get (kept_of ps) p ≡ Some replica.history.now
kept_there ps p replica e = slice_get-map (λ (q : ReplicaHistory). q.history.now) ps p ∙ ap (option_map (λ (q : ReplicaHistory). q.history.now)) e

-- ---- one replica's answer

pub indexed : (ps : List ReplicaHistory) (i p : ℕ) (a : ReplicaHistory) → i ≡ p → p < length ps → a ≡ slice_index_or ps i a → slice_get ps p ≡ Some (slice_index_or ps i a)
indexed ps i p a same l found =
    subst (λ n. slice_get ps n ≡ Some (slice_index_or ps i a)) same (index_get ps i a (omega (arith, same, l)) found ∙ ap (λ x. Some x) found)

pub acts_alone : (ps : List ReplicaHistory) (event e : Event) (i p : ℕ) (a b : ReplicaHistory) (result : Result Rows ReplicaFault) → event ≡ e → replica_of e ≡ p → read_by e (kept_of ps) ≡ Some [] → i ≡ p → slice_get ps p ≡ Some a → AnswersEvent e [] a b result → ActsReplica event ps (slice_set ps i b) result
acts_alone ps event e i p a b result is rep reads same there answers =
    subst (λ v. ActsReplica v ps (slice_set ps i b) result) (sym is)
    (record {
      read = [];
      reads = reads;
      moves = record {
        before = a;
        after = b;
        there = subst (λ n. slice_get ps n ≡ Some a) (sym rep) there;
        now = ap (λ n. slice_set ps n b) (same ∙ sym rep);
        answers = answers;
      };
    })

reads_sent : (ps : List ReplicaHistory) (q : ℕ) → q < length ps → send_of (slice_get (kept_of ps) q) ≡ Some (sent_by (slice_get ps q))
reads_sent [] q l = absurd (omega (arith, l))
reads_sent (p ∷ ps) zero l = refl
reads_sent (p ∷ ps) (suc q) l = reads_sent ps q (omega (arith, l))

acts_reading : (old new : List ReplicaHistory) (p q : ℕ) (id : Option Id) (result : Result Rows ReplicaFault) → q < length old → Moves p (receiving_event q id p) (sent_by (slice_get old q)) old new result → ActsReplica (receiving_event q id p) old new result
acts_reading old new p q None result l m = record { read = sent_by (slice_get old q); reads = reads_sent old q l; moves = m }
acts_reading old new p q (Some i) result l m = record { read = sent_by (slice_get old q); reads = reads_sent old q l; moves = m }

pub acts_received : (old new : List ReplicaHistory) (event : Event) (p q : ℕ) (id : Option Id) (result : Result Rows ReplicaFault) → event ≡ receiving_event q id p → q < length old → Moves p (receiving_event q id p) (sent_by (slice_get old q)) old new result → ActsReplica event old new result
acts_received old new event p q id result is l m =
    subst (λ v. ActsReplica v old new result) (sym is) (acts_reading old new p q id result l m)

-- ---- refusals

set_same : (ps : List ReplicaHistory) (p : ℕ) (A : ReplicaHistory) → slice_get ps p ≡ Some A → slice_set ps p A ≡ ps
set_same [] p A e = cc
set_same (q ∷ ps) zero A e = let s : q ≡ A = cc in ap (λ x. x ∷ ps) (sym s)
set_same (q ∷ ps) (suc p) A e = ap (λ l. q ∷ l) (set_same ps p A e)

unmoved : (p : ℕ) (old new : List ReplicaHistory) (A B : ReplicaHistory) → slice_get old p ≡ Some A → new ≡ slice_set old p B → B ≡ A → new ≡ old
unmoved p old new A B there now same = now ∙ (ap (slice_set old p) same ∙ set_same old p A there)

pub act_refused : (version : Version) (event : Event) (old new : List ReplicaHistory) (fault : ReplicaFault) (result : StepFault) → Allows event version → AreNumbered old → result ≡ fault_for (fault_cause_of fault) event → ActsReplica event old new (Err fault) → MakesStep version event old new (Err result)
act_refused version event old new fault result allowed numbered is acts = go (fault_cause_of fault) is m.answers.1
  where
    m : Moves (replica_of event) event acts.read old new (Err fault)
    m = acts.moves

    same : new ≡ old
    same = unmoved (replica_of event) old new m.before m.after m.there m.now m.answers.0

    go : (o : Option Cause) → result ≡ fault_for o event → IfSome o (λ why. RefusedFor event acts.read m.before why) → MakesStep version event old new (Err result)
    go (Some why) r h =
        let by : IsRefusedBy event old why = record {
          read = acts.read;
          replica = m.before;
          asked = record { number = numbered (replica_of event) m.before m.there; there = kept_there old (replica_of event) m.before m.there; reads = acts.reads };
          refuses = h;
        } in
        subst (λ x. MakesStep version event old new (Err x)) (sym r) (same, why, refl, stops_refused allowed by)
    go None r h = subst (λ x. MakesStep version event old new (Err x)) (sym r) same

pub missing_stops : (version : Version) (event : Event) (ps : List ReplicaHistory) (s : Stuck) → s ≡ stuck_for (because NoSuchReplica) event → IsMissing event ps → MakesStep version event ps ps (Err (E.Stuck s))
missing_stops version event ps s is m = (refl, because NoSuchReplica, is, stops_missing m)

pub version_stops : (version : Version) (event : Event) (ps : List ReplicaHistory) (s : Stuck) → s ≡ stuck_for (because WrongVersion) event → HasReplicas event ps → (Allows event version → ⊥) → MakesStep version event ps ps (Err (E.Stuck s))
version_stops version event ps s is there bars = (refl, because WrongVersion, is, stops_version there bars)

pub as_many_states : (ps : List ReplicaHistory) → length (network_of ps) ≡ length ps
as_many_states ps = length-map (kept_of ps) _ ∙ length-map ps _

pub no_state : (ps : List ReplicaHistory) (p : ℕ) → length ps ≤ p → slice_get (network_of ps) p ≡ None
no_state ps p l = slice_get_past (network_of ps) p (let m = as_many_states ps in omega (arith, l, m))

-- where it receives from a replica that isn't there
nothing_read : (event : Event) (q : ℕ) (ps : List ReplicaHistory) → sender_of event ≡ Some q → length ps ≤ q → read_by event (network_of ps) ≡ None
nothing_read (V.Recv p r) q ps is l = let s : r ≡ q = cc in ap send_of (no_state ps r (omega (arith, s, l)))
nothing_read (V.Take p r i) q ps is l = let s : r ≡ q = cc in ap send_of (no_state ps r (omega (arith, s, l)))
nothing_read _ q ps is l = cc

state_there : (ps : List ReplicaHistory) (p : ℕ) → p < length ps → (A : State) × (slice_get (network_of ps) p ≡ Some A)
state_there ps p l = some_at (network_of ps) p (let m = as_many_states ps in omega (arith, l, m))

-- where its replicas are there it reads something, or nothing at all
some_read : (event : Event) (ps : List ReplicaHistory) → HasReplicas event ps → (read : List Op) × (read_by event (network_of ps) ≡ Some read)
some_read (V.Recv p q) ps h = let x = state_there ps q (h.1 q refl) in (x.0.send, ap send_of x.1)
some_read (V.Take p q i) ps h = let x = state_there ps q (h.1 q refl) in (x.0.send, ap send_of x.1)
some_read _ ps h = ([], refl)

pub stopped : (version : Version) (scripts : List (List Cmd)) (first : List State) (event : Event) (ps : List ReplicaHistory) (why : Cause) → IsInRun version scripts first (network_of ps) (kept_of ps) → Stops version event ps why → IsStuckIn (of_version version (network_of ps)) event why
stopped version scripts first event ps why run (stops_missing (inl l)) = replica_missing (no_state ps (replica_of event) l)
stopped version scripts first event ps why run (stops_missing (inr (q, is, l))) = sender_missing (nothing_read event q ps is l)
stopped version scripts first event ps why run (stops_version there bars) =
    wrong_version (state_there ps (replica_of event) there.0).1 (some_read event ps there).1 bars
stopped version scripts first event ps why run (stops_refused allowed by) =
    stuck_in (of_version version (network_of ps)) event why allowed
    (is_stuck run.set (network_of ps) (kept_of ps) (well scripts (network_of ps) (reached version scripts first (network_of ps) (kept_of ps) run)).sets run.seen event by.read by.replica why by.asked by.refuses)

pub never_full : (version : Version) (event : Event) (old new : List ReplicaHistory) (fault : StepFault) → MakesStep version event old new (Err fault) → fault ≡ E.Full → ⊥
never_full version event old new E.Full m e = m
never_full version event old new (E.Stuck s) m e = cc
never_full version event old new E.Memory m e = cc

-- the fault of an event that is stuck
pub told_stuck : (version : Version) (scripts : List (List Cmd)) (first : List State) (event : Event) (old new : List ReplicaHistory) (fault : StepFault) (s : Stuck) → IsInRun version scripts first (network_of old) (kept_of old) → MakesStep version event old new (Err fault) → fault ≡ E.Stuck s → IsStuckFor (of_version version (network_of old)) event s
told_stuck version scripts first event old new fault s run m e =
    let h : MakesStep version event old new (Err (E.Stuck s)) = subst (λ f. MakesStep version event old new (Err f)) e m in
    record { why = h.1; stuck = stopped version scripts first event old h.1 run h.3; is = h.2 }

pub at_err : {A E : Type 0} (P : E → Type 0) (r : Result A E) (y : E) → IsErrAnd r P → r ≡ Err y → P y
at_err {A = A} P r y h e = subst (λ q. IsErrAnd {T = A} q P) e h

-- ---- receiving

-- what the replica q offers is what the replica p reads
pub received : (whole new : List ReplicaHistory) (p q : ℕ) (id : Option Id) (a b s : ReplicaHistory) (read : List Op) (result : Result Rows ReplicaFault) → slice_get whole p ≡ Some a → slice_get whole q ≡ Some s → read ≡ s.history.now.send → new ≡ slice_set whole p b → a.number ≡ p → AnswersEvent (receiving_event q id a.number) read a b result → Moves p (receiving_event q id p) (sent_by (slice_get whole q)) whole new result
received whole new p q id a b s read result there sender is now number answers =
    let sent : read ≡ sent_by (slice_get whole q) = is ∙ sym (ap sent_by sender) in
    record {
      before = a;
      after = b;
      there = there;
      now = now;
      answers = subst (λ r. AnswersEvent (receiving_event q id p) r a b result) sent (subst (λ n. AnswersEvent (receiving_event q id n) read a b result) number answers);
    }
