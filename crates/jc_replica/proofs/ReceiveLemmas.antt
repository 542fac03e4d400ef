-- Lemmas about Received: operations are received, from what is held before to what is held after.
use Rattle.std.proofs.Common.{◌≡◌, ℕ, List, [], ◌∷◌, ◌++◌, length, map, filter, Option, Some, None, IfSome, unwrap_or, option_copied, option_map, Bor, true, refl, sym, ◌∙◌, ap, subst}
use Rattle.std.proofs.lemmas.Option.{same_Some}
use Rattle.jc_rules.specs.declared.id.Id.{Id}
use Rattle.jc_rules.specs.declared.operation.Event.TheVariants as E
use Rattle.jc_rules.specs.declared.operation.Op.{Op}
use Rattle.jc_rules.specs.declared.refusal.Refusal.TheVariants as F
use Rattle.jc_rules.specs.declared.rule.Rule.TheVariants as R
use Rattle.jc_rules.specs.Derivation.{Occur, ToState}
use Rattle.jc_rules.specs.Refused.{because, not_offered}
use Rattle.jc_rules.specs.State.{State}
use Rattle.jc_rules.specs.Syntax.{Cmd, Yield}
use Rattle.jc_rules.specs.Table.{both, op_of}
use Rattle.jc_rules.specs.Trace.{Rows, pushed}
use Rattle.jc_rules.proofs.RepresentationLemmas.{looked_up}
use Rattle.jc_rules.proofs.DerivesLemmas.{by_axiom}
use Rattle.jc_vectors.specs.StoredStates.{stored_op, stored_state, RepresentsState, AreOf}
use Rattle.jc_vectors.proofs.ApplyStandsLemmas.{kept_found, of_set}
use Rattle.jc_vectors.proofs.UnionStandsLemmas.{union_stands}
use Rattle.jc_tree.specs.Tree.{Tree}
use Rattle.jc_replica.specs.declared.record.Record.{Record}
use Rattle.jc_replica.specs.Answers.{RefusedFor, Occurs}
use Rattle.jc_replica.specs.Invariant.{IsReplica, CanBack}
use Rattle.jc_replica.specs.Operations.{identifiers, AreInOrder, IsHanded, AreHanded}
use Rattle.jc_replica.specs.ReplicaHistory.{ReplicaHistory, no_rows}
use Rattle.jc_replica.specs.Received.{is_new, receiving_event, receiving_rule, read_of, AreKeptOf, IsUnited, HasReceived}
use Rattle.jc_replica.specs.Refines.{IsRead, LeadsReplica}
use Rattle.jc_replica.specs.Undo.{Held, held_of, undone_once, replica_history_of, without_ops}
use Rattle.jc_replica.proofs.AnswersLemmas.{ready_now}
use Rattle.jc_replica.proofs.RefinesLemmas.{left_seen}
use Rattle.jc_replica.proofs.UndoStepsLemmas.{Stepped, stepped}
use Rattle.jc_replica.proofs.MayApplyLemmas.{kept_absent}
use Rattle.jc_replica.proofs.ReceivedLemmas.{found_in}
use Rattle.jc_rules.proofs.HistoryLemmas.{still}

-- operations of the set, as they are kept
kept_of : (set os : List Op) → AreOf set os → AreKeptOf set (map stored_op os)
kept_of set [] h = tt
kept_of set (o ∷ os) h = ((o, h.0, refl), kept_of set os h.1)

-- the stored state with what was received represents the state that received it
received_stands : (set : List Op) (A K : State) → RepresentsState set A K → (os read new : List Op) → IsRead set os read → IsUnited K.recv read new → RepresentsState set (record A { acted = true; recv = both A.recv os }) (record K { acted = true; recv = new })
received_stands set A K stands os read new of united =
    let B : State = record A { acted = true; recv = both A.recv os } in
    let u = union_stands set A.recv os stands.received of.of in
    let old : K.recv ≡ map stored_op A.recv = ap (λ (S : State). S.recv) stands.is in
    let were : AreKeptOf set K.recv = subst (AreKeptOf set) (sym old) (kept_of set A.recv stands.received) in
    let are : AreKeptOf set read = subst (AreKeptOf set) (sym of.is) (kept_of set os of.of) in
    let kept : new ≡ map stored_op (both A.recv os) = united set stands.sound were are of.one ∙ (λ n. both (old n) (of.is n)) ∙ u.0 in
    let is : record K { acted = true; recv = new } ≡ stored_state B = ap (λ (r : List Op). record K { acted = true; recv = r }) kept ∙ ap (λ (S : State). record S { acted = true; recv = map stored_op (both A.recv os) }) stands.is in
    record { sound = stands.sound; is = is; applied = stands.applied; made = stands.made; offered = stands.offered; received = u.1; knows = stands.knows }

leads_received : (set : List Op) (p q : ℕ) (A K : State) → RepresentsState set A K → (os read new : List Op) (rest : List Cmd) (rows : Rows) → IsRead set os read → K.left ≡ Yield ∷ rest → IsUnited K.recv read new → rows ≡ pushed no_rows R.Recv → LeadsReplica set (E.Recv p q) p os A (record K { acted = true; recv = new }) rows
leads_received set p q A K stands os read new rest rows of l united re =
    let B : State = record A { acted = true; recv = both A.recv os } in
    record {
      now = B;
      made = None;
      derives = rw re (by_axiom R.Recv (Occur A (E.Recv p q) os) (ToState B) no_rows (rest, left_seen set A K stands ∙ l, refl, refl));
      stands = received_stands set A K stands os read new of united;
      own = λ all. all;
      queue = refl;
      fresh = tt;
    }

-- of what is offered one operation is received, in each sound set the one that it represents
found_one : (set os read : List Op) (i : Id) (k : Op) → IsRead set os read → op_of i read ≡ Some k → (o : Op) × (op_of i os ≡ Some o) × IsRead set (o ∷ []) (k ∷ [])
found_one set os read i k of found =
    let x = kept_found i os k (ap (op_of i) (sym of.is) ∙ found) in
    let there : op_of i set ≡ Some x.0 = of_set set os i x.0 of.of x.1 in
    let own : x.0.id ≡ i = (looked_up i os x.0 x.1).0 in
    (x.0, x.1, record { of = (ap (λ j. op_of j set) own ∙ there, tt); is = ap (λ (y : Op). y ∷ []) x.2; one = tt })

leads_taken : (set : List Op) (p q : ℕ) (i : Id) (A K : State) → RepresentsState set A K → (os read new : List Op) (k : Op) (rest : List Cmd) (rows : Rows) → IsRead set os read → K.left ≡ Yield ∷ rest → op_of i read ≡ Some k → IsUnited K.recv (k ∷ []) new → rows ≡ pushed no_rows R.RecvOne → LeadsReplica set (E.Take p q i) p os A (record K { acted = true; recv = new }) rows
leads_taken set p q i A K stands os read new k rest rows of l found united re =
    let x = found_one set os read i k of found in
    let B : State = record A { acted = true; recv = both A.recv (x.0 ∷ []) } in
    record {
      now = B;
      made = None;
      derives = rw re (by_axiom R.RecvOne (Occur A (E.Take p q i) os) (ToState B) no_rows (rest, x.0, left_seen set A K stands ∙ l, x.1, refl, refl));
      stands = received_stands set A K stands (x.0 ∷ []) (k ∷ []) new x.2 united;
      own = λ all. all;
      queue = refl;
      fresh = tt;
    }

-- the events, by what was received
pub receives : (q : ℕ) (read : List Op) (old new : ReplicaHistory) (rest : List Cmd) (rows : Rows) → HasReceived read old new → old.history.now.left ≡ Yield ∷ rest → rows ≡ pushed no_rows R.Recv → Occurs (E.Recv old.number q) read old new rows
receives q read old new rest rows h l re = record {
  leads = λ set os A stands own of. subst (λ (S : State). LeadsReplica set (E.Recv old.number q) old.number os A S rows) (sym h.now) (leads_received set old.number q A old.history.now stands os read new.history.now.recv rest rows of l h.united re);
  earlier = h.earlier;
  number = h.number;
}

pub takes : (q : ℕ) (i : Id) (read : List Op) (k : Op) (old new : ReplicaHistory) (rest : List Cmd) (rows : Rows) → HasReceived (k ∷ []) old new → op_of i read ≡ Some k → old.history.now.left ≡ Yield ∷ rest → rows ≡ pushed no_rows R.RecvOne → Occurs (E.Take old.number q i) read old new rows
takes q i read k old new rest rows h found l re = record {
  leads = λ set os A stands own of. subst (λ (S : State). LeadsReplica set (E.Take old.number q i) old.number os A S rows) (sym h.now) (leads_taken set old.number q i A old.history.now stands os read new.history.now.recv k rest rows of l found h.united re);
  earlier = h.earlier;
  number = h.number;
}

-- what is looked up was handed as all were
pub one_handed : (i : Id) (os : List Op) (k : Op) → op_of i os ≡ Some k → AreHanded os → AreHanded (k ∷ [])
one_handed i os k found h = (found_in IsHanded i os k h found, tt)

-- the one operation that is read
record IsOneRead (i : Id) (os read : List Op) : Type 0 where
  operation : Op
  found : op_of i os ≡ Some operation
  is : read ≡ operation ∷ []

one_read : (i : Id) (os read : List Op) → read_of (Some i) os ≡ Some read → IsOneRead i os read
one_read i os read e = go (op_of i os) refl e
  where
    go : (o : Option Op) → op_of i os ≡ o → option_map (λ (x : Op). x ∷ []) o ≡ Some read → IsOneRead i os read
    go None f g = cc
    go (Some k) f g = record { operation = k; found = f; is = sym (same_Some (k ∷ []) read g) }

-- what is read was handed as all were
pub read_handed : (id : Option Id) (os read : List Op) → read_of id os ≡ Some read → AreHanded os → AreHanded read
read_handed None os read e h = subst AreHanded (same_Some os read e) h
read_handed (Some i) os read e h = let x = one_read i os read e in subst AreHanded (sym x.is) (one_handed i os x.operation x.found h)

-- and in order
pub read_order : (id : Option Id) (os read : List Op) → read_of id os ≡ Some read → AreInOrder os → AreInOrder read
read_order None os read e h = subst AreInOrder (same_Some os read e) h
read_order (Some i) os read e h = let x = one_read i os read e in subst AreInOrder (sym x.is) (tt, tt)

-- the event, by what was read
pub receives_read : (id : Option Id) (q : ℕ) (os read : List Op) (old new : ReplicaHistory) (rest : List Cmd) (rows : Rows) → HasReceived read old new → read_of id os ≡ Some read → old.history.now.left ≡ Yield ∷ rest → rows ≡ pushed no_rows (receiving_rule id) → Occurs (receiving_event q id old.number) os old new rows
receives_read None q os read old new rest rows h e l re =
    let all : HasReceived os old new = subst (λ (xs : List Op). HasReceived xs old new) (sym (same_Some os read e)) h in
    receives q os old new rest rows all l re
receives_read (Some i) q os read old new rest rows h e l re =
    let x = one_read i os read e in
    let one : HasReceived (x.operation ∷ []) old new = subst (λ (xs : List Op). HasReceived xs old new) x.is h in
    takes q i os x.operation old new rest rows one x.found l re

-- why one isn't taken in
pub refused_take : (now : ReplicaHistory) (q : ℕ) (i : Id) (read : List Op) (rest : List Cmd) → now.history.now.left ≡ Yield ∷ rest → op_of i read ≡ None → RefusedFor (E.Take now.number q i) read now (because F.NotReceived)
refused_take now q i read rest l none = λ set os A stands of.
    not_offered (left_seen set A now.history.now stands ∙ l) (kept_absent i os (ap (op_of i) (sym of.is) ∙ none))

-- so nothing is read
pub refused_read : (now : ReplicaHistory) (q : ℕ) (id : Option Id) (os : List Op) (rest : List Cmd) → now.history.now.left ≡ Yield ∷ rest → read_of id os ≡ None → RefusedFor (receiving_event q id now.number) os now (because F.NotReceived)
refused_read now q None os rest l none = cc
refused_read now q (Some i) os rest l none = go (op_of i os) refl none
  where
    go : (o : Option Op) → op_of i os ≡ o → option_map (λ x. x ∷ []) o ≡ None → RefusedFor (E.Take now.number q i) os now (because F.NotReceived)
    go None f g = refused_take now q i os rest l f
    go (Some k) f g = cc

-- what is handed, or else one's own
pub offered_now : (o : Option (Bor (List Op))) (own : Bor (List Op)) → (unwrap_or o own).now ≡ unwrap_or (option_copied o) own.now
offered_now None own = refl
offered_now (Some x) own = refl

pub offered_order : (o : Option (Bor (List Op))) (own : List Op) → IfSome o (λ x. AreInOrder x.now) → AreInOrder own → AreInOrder (unwrap_or (option_copied o) own)
offered_order None own h g = g
offered_order (Some x) own h g = h

-- with what was received
abbrev pub received_held : Held → List Op → Held
received_held h new = held_of h.done true h.vars h.ops h.queue h.sent new

-- what came is what is there now and wasn't before
pub came_again : (ids : List Id) (old new : List Op) → without_ops ids new ≡ old → identifiers (filter (is_new old) new) ≡ ids → identifiers (filter (is_new (without_ops ids new)) new) ≡ ids
came_again ids old new back came = ap (λ (os : List Op). identifiers (filter (is_new os) new)) back ∙ came

-- what was received, by what was seen before it
pub has_received : {script : List Cmd} {t : Tree} {rs : List Record} {h : Held} (number : ℕ) (p : ReplicaHistory) → replica_history_of number script t rs h ≡ p → (read new : List Op) (ss : List Record) → IsUnited h.recv read new → Stepped script t t rs ss h (received_held h new) → HasReceived read p (replica_history_of number script t ss (received_held h new))
has_received {script} {t} {rs} {h} number p v read new ss united s =
    subst (λ (x : ReplicaHistory). HasReceived read x (replica_history_of number script t ss (received_held h new))) v
    (record { united = united; now = refl; earlier = s.earlier; number = refl })

pub received_step : {script : List Cmd} {t : Tree} {rs : List Record} {h : Held} → IsReplica script t rs h → (new : List Op) (ss : List Record) (r : Record) → ss ≡ rs ++ r ∷ [] → r.mark.changes ≡ length t.earlier → undone_once r.change (received_held h new) ≡ h → CanBack script r.change (received_held h new) → AreInOrder new → AreHanded new → Stepped script t t rs ss h (received_held h new)
received_step {script} {t} {rs} {h} kept new ss r se me be cb order handed =
    let a = ready_now kept in
    stepped kept t ss r (received_held h new) (still t) se me be cb
    (record {
      chained = a.chained;
      linked = a.linked;
      named = a.named;
      counters = a.counters;
      in_order = a.in_order;
      numbered = a.numbered;
      received = order;
      handed = handed;
      short = a.short;
      counted = a.counted;
    })
    (record { done = kept.bounds.done; sent = kept.bounds.sent })
