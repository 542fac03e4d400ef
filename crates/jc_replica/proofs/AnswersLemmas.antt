-- Lemmas about Answers: an event, from what is held before it to what is held after it.
use Rattle.std.proofs.Common.{◌≡◌, ℕ, ◌+◌, ◌-◌, List, [], ◌∷◌, ◌++◌, length, take, drop, true, false, refl, sym, ◌∙◌, ap, subst, arith}
use Rattle.std.proofs.lemmas.List.{take_all}
use Rattle.std.specs.List.{AllByRecursion}
use Rattle.jc_rules.specs.declared.operation.Op.{Op}
use Rattle.jc_rules.specs.declared.operation.Event.{Event}
use Rattle.jc_rules.specs.declared.operation.Event.TheVariants as E
use Rattle.jc_rules.specs.declared.rule.Rule.TheVariants as R
use Rattle.jc_rules.specs.State.{State}
use Rattle.jc_rules.specs.Syntax.{Cmd, Yield}
use Rattle.jc_rules.specs.Context.{Context}
use Rattle.jc_rules.specs.Trace.{Rows, pushed}
use Rattle.jc_rules.specs.History.{timeline}
use Rattle.jc_tree.specs.Tree.{Tree}
use Rattle.jc_replica.specs.declared.record.Record.{Record}
use Rattle.jc_replica.specs.declared.record.Change.TheVariants as C
use Rattle.jc_replica.specs.ReadyToStep.{IsReadyToStep}
use Rattle.jc_replica.specs.ReplicaHistory.{ReplicaHistory, no_rows}
use Rattle.jc_replica.specs.Answers.{Occurs}
use Rattle.jc_vectors.specs.StoredStates.{RepresentsState}
use Rattle.jc_replica.specs.Refines.{HasOwnFor, IsRead, LeadsReplica}
use Rattle.jc_replica.specs.Undo.{Held, held_of, undone_once, state_of, states, replica_history_of}
use Rattle.jc_replica.specs.Invariant.{IsReplica}
use Rattle.jc_replica.proofs.ScriptLemmas.{drop-more, one_less}
use Rattle.jc_replica.proofs.RefinesLemmas.{leads_sent, leads_done}
use Rattle.jc_replica.proofs.SendLemmas.{both-front}

all_last : {X : Type 0} (P : X → Type 0) (xs : List X) (x : X) → AllByRecursion P (xs ++ x ∷ []) → P x
all_last P [] x a = a.0
all_last P (y ∷ ys) x a = all_last P ys x a.1

-- in each sound set an event leads from the state that the old stored state represents to that of the new one
abbrev pub Leading : ℕ → Event → List Op → State → State → Rows → Type 0
Leading p event read K new rows = (set os : List Op) (A : State) → RepresentsState set A K → HasOwnFor event set p A → IsRead set os read → LeadsReplica set event p os A new rows

pub ready_now : {script : List Cmd} {t : Tree} {rs : List Record} {h : Held} → IsReplica script t rs h → IsReadyToStep (state_of script h t.now)
ready_now {script} {t} {rs} {h} k = all_last IsReadyToStep (states script (timeline t) rs h) (state_of script h t.now) k.ready

-- the step that a call has made, by what was seen before it
pub occurs : {script : List Cmd} {t : Tree} {rs : List Record} {h : Held} → IsReplica script t rs h → (number : ℕ) (p : ReplicaHistory) → replica_history_of number script t rs h ≡ p → (event : ℕ → Event) (read : List Op) (u : Tree) (ss : List Record) (h2 : Held) (rows : Rows) → Leading number (event number) read (state_of script h t.now) (state_of script h2 u.now) rows → states script (timeline u) ss h2 ≡ states script (timeline t) rs h ++ state_of script h t.now ∷ [] → Occurs (event p.number) read p (replica_history_of number script u ss h2) rows
occurs {script} k number p v event read u ss h2 rows d e =
    subst (λ (x : ReplicaHistory). Occurs (event x.number) read x (replica_history_of number script u ss h2) rows) v (record { leads = d; earlier = e; number = refl })

-- offering
pub sent_ready : (script : List Cmd) (h h2 : Held) (c : Context) → IsReadyToStep (state_of script h c) → h2 ≡ held_of h.done true h.vars h.ops h.queue (length h.queue) h.recv → IsReadyToStep (state_of script h2 c)
sent_ready script h h2 c r e = rw e (record {
  chained = r.chained;
  linked = r.linked;
  named = r.named;
  counters = r.counters;
  in_order = r.in_order;
  numbered = r.numbered;
  received = r.received;
  handed = r.handed;
  short = r.short;
  counted = r.counted;
})

pub sends : (p : ℕ) (script : List Cmd) (h h2 : Held) (c : Context) (rest : List Cmd) (u : Rows) → IsReadyToStep (state_of script h c) → drop h.done script ≡ Yield ∷ rest → h2 ≡ held_of h.done true h.vars h.ops h.queue (length h.queue) h.recv → u ≡ pushed no_rows R.Send → Leading p (E.Send p) [] (state_of script h c) (state_of script h2 c) u
sends p script h h2 c rest u r l e ue set os A stands own read =
    let K = state_of script h c in
    let all : take (length h.queue) h.queue ≡ h.queue = take_all (length h.queue) h.queue (omega arith) in
    leads_sent set p A K stands os rest (state_of script h2 c) u l (both-front h.sent h.queue r.in_order) (ap (λ (x : Held). state_of script x c) e ∙ ap (λ (q : List Op). record K { acted = true; send = q }) all) ue

-- the end of a yield
pub done_ready : (script : List Cmd) (h h2 : Held) (c : Context) (rest : List Cmd) → IsReadyToStep (state_of script h c) → drop h.done script ≡ Yield ∷ rest → h2 ≡ held_of (h.done + 1) false h.vars h.ops h.queue h.sent h.recv → IsReadyToStep (state_of script h2 c)
done_ready script h h2 c rest r l e =
    let less = one_less h.done script Yield rest l in
    rw e (record {
      chained = r.chained;
      linked = r.linked;
      named = r.named;
      counters = r.counters;
      in_order = r.in_order;
      numbered = r.numbered;
      received = r.received;
      handed = r.handed;
      short = omega (arith, less, r.short);
      counted = omega (arith, less, r.counted);
    })

pub ends : (p : ℕ) (script : List Cmd) (h h2 : Held) (c : Context) (rest : List Cmd) (u : Rows) → drop h.done script ≡ Yield ∷ rest → h.acted ≡ true → h2 ≡ held_of (h.done + 1) false h.vars h.ops h.queue h.sent h.recv → u ≡ pushed no_rows R.Done → Leading p (E.Done p) [] (state_of script h c) (state_of script h2 c) u
ends p script h h2 c rest u l a e ue set os A stands own read =
    let K = state_of script h c in
    leads_done set p A K stands os rest (state_of script h2 c) u l a (ap (λ (x : Held). state_of script x c) e ∙ ap (λ (q : List Cmd). record K { left = q; acted = false }) (drop-more h.done script Yield rest l)) ue

pub ended_back : (h : Held) → h.acted ≡ true → undone_once C.Ended (held_of (h.done + 1) false h.vars h.ops h.queue h.sent h.recv) ≡ h
ended_back h e =
    let d : h.done + 1 - 1 ≡ h.done = omega arith in
    λ i. record { done = d i; acted = sym e i; vars = h.vars; ops = h.ops; queue = h.queue; sent = h.sent; recv = h.recv }
