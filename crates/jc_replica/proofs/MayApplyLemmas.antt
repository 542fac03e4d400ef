-- Lemmas about MayApply: a received operation is applied, from what is held before to what is held after.
use Rattle.std.proofs.Common.{◌≡◌, ◌≢◌, ℕ, ◌<◌, ◌≤◌, List, [], ◌∷◌, ◌++◌, length, map, Option, Some, None, IfSome, Bool, true, false, ◌↔◌, ◌⊎◌, inl, inr, Bor, option_copied, refl, sym, ◌∙◌, ap, subst, arith}
use Rattle.std.proofs.lemmas.Bool.{cases_lt}
use Rattle.std.specs.List.{AllByRecursion}
use Rattle.jc_rules.specs.declared.id.Id.{Id}
use Rattle.jc_rules.specs.declared.operation.Event.TheVariants as E
use Rattle.jc_rules.specs.declared.operation.Op.{Op}
use Rattle.jc_rules.specs.declared.refusal.Refusal.TheVariants as F
use Rattle.jc_rules.specs.declared.rule.Rule.TheVariants as R
use Rattle.jc_rules.specs.Context.{Context}
use Rattle.jc_rules.specs.Derivation.{Occur, Operate, ToContext, ToState}
use Rattle.jc_rules.specs.Derives.{Derives}
use Rattle.jc_rules.specs.VersionVectors.{covered, ids_up_to, greatest_of}
use Rattle.jc_rules.specs.Ids.{has_id, union, greatest, AreIn}
use Rattle.jc_rules.specs.Order.{same_id}
use Rattle.jc_rules.specs.Refused.{Cause, because, Refused, not_received, already_applied, deps_missing, in_received}
use Rattle.jc_rules.specs.WellFormed.{IsChained}
use Rattle.jc_rules.specs.State.{State}
use Rattle.jc_rules.specs.Syntax.{Cmd, Yield}
use Rattle.jc_rules.specs.Table.{op_of}
use Rattle.jc_rules.specs.Trace.{Rows, at_depth}
use Rattle.jc_rules.proofs.CoveredLemmas.{filled_in}
use Rattle.jc_rules.proofs.IdsLemmas.{has_id-with}
use Rattle.jc_rules.proofs.RepresentationLemmas.{looked_up, counters_tell, subset_both}
use Rattle.jc_rules.proofs.DerivesLemmas.{one_premise}
use Rattle.jc_rules.proofs.WithdrawLemmas.{lowered-inserted}
use Rattle.jc_apply.specs.Fits.{IsUnlinked}
use Rattle.jc_vectors.specs.OperationIds.{with_deps}
use Rattle.jc_vectors.specs.StoredStates.{stored_op, RepresentsState, HasOwn, after_taking, after_taking_stored}
use Rattle.jc_vectors.proofs.ApplyStandsLemmas.{kept_found, of_set, deps_closed, apply_stands}
use Rattle.jc_replica.specs.declared.record.Change.TheVariants as C
use Rattle.jc_replica.specs.declared.fault.ReplicaFault.{ReplicaFault}
use Rattle.jc_replica.specs.declared.record.Record.{Record}
use Rattle.jc_tree.specs.declared.store.Mark.{Mark}
use Rattle.jc_rules.specs.History.{IsLater}
use Rattle.jc_tree.specs.Tree.{Tree}
use Rattle.jc_replica.specs.Answers.{RefusedFor, fault_cause_of, IsEventRefused}
use Rattle.jc_replica.specs.Invariant.{CanBack, IsReplica}
use Rattle.jc_replica.specs.NextCommand.{opened}
use Rattle.jc_replica.specs.Operations.{IsHanded}
use Rattle.jc_replica.specs.ReplicaHistory.{ReplicaHistory, no_rows}
use Rattle.jc_replica.specs.ReadyToStep.{IsReadyToStep}
use Rattle.jc_replica.specs.Refines.{LeadsReplica}
use Rattle.jc_replica.specs.MayApply.{TakesOp, IsDueOp}
use Rattle.jc_replica.specs.Undo.{Held, held_of, undone_once, state_of}
use Rattle.jc_replica.proofs.InvariantAddLemmas.{counters_after, greatest_after, is_greatest, still_linked}
use Rattle.jc_replica.proofs.AnswersLemmas.{Leading, ready_now}
use Rattle.jc_replica.proofs.UndoStepsLemmas.{Stepped, stepped}
use Rattle.jc_replica.proofs.RefinesLemmas.{left_seen}
use Rattle.jc_replica.proofs.ReceivedLemmas.{found_in}
use Rattle.jc_rules.proofs.BoolLemmas.{or_right}

-- what isn't among stored operations isn't among those that they represent
pub kept_absent : (i : Id) (os : List Op) → op_of i (map stored_op os) ≡ None → op_of i os ≡ None
kept_absent i [] h = refl
kept_absent i (e ∷ os) h = go (same_id i e.id) refl (kept_absent i os)
  where
    go : (b : Bool) → same_id i e.id ≡ b → (op_of i (map stored_op os) ≡ None → op_of i os ≡ None) → op_of i (e ∷ os) ≡ None
    go true p ih = let no : Some (stored_op e) ≡ None = rw p at h in cc
    go false p ih = rw p (ih (rw p at h))

-- the received operation that a stored one represents, and when it may be applied
pub record StoodFor (A K : State) (i : Id) (k : Op) : Type 0 where
  pub operation : Op
  pub found : op_of i A.recv ≡ Some operation
  pub is : k ≡ stored_op operation
  pub applied : has_id i K.ops ≡ has_id i A.ops
  pub deps : AreIn k.deps K.ops ↔ AreIn operation.deps A.ops

module _ (set : List Op) (p : ℕ) (A K : State) (stands : RepresentsState set A K) where
  absent_seen : (i : Id) → op_of i K.recv ≡ None → op_of i A.recv ≡ None
  absent_seen i h = kept_absent i A.recv (sym (ap (λ (S : State). op_of i S.recv) stands.is) ∙ h)

  pub stood_for : (i : Id) (k : Op) → op_of i K.recv ≡ Some k → StoodFor A K i k
  stood_for i k h = go (kept_found i A.recv k (sym (ap (λ (S : State). op_of i S.recv) stands.is) ∙ h))
    where
      go : ((o : Op) × (op_of i A.recv ≡ Some o) × (k ≡ stored_op o)) → StoodFor A K i k
      go x =
          let o : Op = x.0 in
          let of : op_of i set ≡ Some o = of_set set A.recv i o stands.received x.1 in
          let ops : K.ops ≡ covered A.ops = ap (λ (S : State). S.ops) stands.is in
          let both = subset_both set o.deps A.ops stands.sound (deps_closed set i o stands.sound of) stands.applied in
          let same : AreIn k.deps K.ops ≡ AreIn (covered o.deps) (covered A.ops) = λ n. AreIn (x.2 n).deps (ops n) in
          record {
            operation = o;
            found = x.1;
            is = x.2;
            applied = ap (has_id i) ops ∙ counters_tell set A.ops stands.sound stands.applied i o of;
            deps = (λ h. both.0 (subst (λ (T : Type 0). T) same h), λ h. subst (λ (T : Type 0). T) (sym same) (both.1 h));
          }

  -- why it is refused
  pub refused_absent : (i : Id) (os : List Op) (rest : List Cmd) → K.left ≡ Yield ∷ rest → op_of i K.recv ≡ None → Refused (Occur A (E.Apply p i) os) (because F.NotReceived)
  refused_absent i os rest l h = not_received (left_seen set A K stands ∙ l) (absent_seen i h)

  pub refused_applied : (i : Id) (k : Op) (os : List Op) (rest : List Cmd) → K.left ≡ Yield ∷ rest → op_of i K.recv ≡ Some k → has_id i K.ops ≡ true → Refused (Occur A (E.Apply p i) os) (because F.AlreadyApplied)
  refused_applied i k os rest l f h =
      let x = stood_for i k f in
      already_applied (left_seen set A K stands ∙ l) x.found (sym x.applied ∙ h)

  pub refused_missing : (i : Id) (k : Op) (os : List Op) (rest : List Cmd) → K.left ≡ Yield ∷ rest → op_of i K.recv ≡ Some k → has_id i K.ops ≡ false → (AreIn k.deps K.ops → ⊥) → Refused (Occur A (E.Apply p i) os) (because F.DepsMissing)
  refused_missing i k os rest l f h n =
      let x = stood_for i k f in
      deps_missing (left_seen set A K stands ∙ l) x.found (sym x.applied ∙ h) (λ d. n (x.deps.1 d))

  pub refused_taken : (i : Id) (k : Op) (os : List Op) (why : Cause) → TakesOp K i k → ((deps : List Id) → Refused (Operate K.tree (with_deps deps k)) why) → Refused (Occur A (E.Apply p i) os) why
  refused_taken i k os why t r =
      let x = stood_for i k t.received in
      let o = x.operation in
      let tree : K.tree ≡ A.tree = ap (λ (S : State). S.tree) stands.is in
      let one : with_deps o.deps k ≡ o = ap (with_deps o.deps) x.is in
      let s : Refused (Operate A.tree o) why = subst (λ (c : Context). Refused (Operate c o) why) tree (subst (λ (e : Op). Refused (Operate K.tree e) why) one (r o.deps)) in
      in_received (left_seen set A K stands ∙ t.yields) x.found (sym x.applied ∙ t.new) (x.deps.0 t.deps) s

  -- the event, from the derivation of the kept operation
  own_taken : (i : Id) (t : Context) → HasOwn set p A → HasOwn set p (after_taking i t A)
  own_taken i t all e there own = has_id-with e.id i A.ops ∙ or_right (same_id e.id i) (has_id e.id A.ops) (all e there own)

  pub leads_taken : (i : Id) (k : Op) (tree : Context) (os : List Op) (u v : Rows) → TakesOp K i k → u ≡ opened no_rows R.ApplyRemote → Derives (Operate K.tree k) (ToContext tree) u v → LeadsReplica set (E.Apply p i) p os A (after_taking_stored i tree K) (at_depth 0 v)
  leads_taken i k tree os u v t ue d =
      let d0 : Derives (Operate K.tree k) (ToContext tree) (opened no_rows R.ApplyRemote) v = subst (λ (r : Rows). Derives (Operate K.tree k) (ToContext tree) r v) ue d in
      let all = apply_stands set A K i k tree (opened no_rows R.ApplyRemote) v stands t.received t.new t.deps d0 in
      let o : Op = all.0 in
      let B : State = after_taking i tree A in
      record {
        now = B;
        made = None;
        derives = one_premise R.ApplyRemote (Occur A (E.Apply p i) os) (ToState B) (Operate A.tree o) (ToContext tree) no_rows v all.4 (t.rest, o, tree, left_seen set A K stands ∙ t.yields, all.1, all.2, all.3, refl, refl);
        stands = all.5;
        own = own_taken i tree;
        queue = refl;
        fresh = tt;
      }

-- with the operation
abbrev pub taken_held : Held → Id → Held
taken_held h i = held_of h.done true h.vars (union (ids_up_to i.replica i.counter) h.ops) h.queue h.sent h.recv

-- an identifier that isn't applied is above those of its replica that are
pub above_applied : (i : Id) (ops : List Id) → ops ≡ covered ops → 1 ≤ i.counter → has_id i ops ≡ false → greatest_of i.replica ops < i.counter
above_applied i ops e l h = go (cases_lt (greatest_of i.replica ops) i.counter)
  where
    go : (greatest_of i.replica ops < i.counter) ⊎ (i.counter ≤ greatest_of i.replica ops) → greatest_of i.replica ops < i.counter
    go (inl a) = a
    go (inr b) =
        let there : has_id i ops ≡ true = subst (λ (s : List Id). has_id i s ≡ true) (sym e) (filled_in i ops l b) in
        let no : true ≡ false = sym there ∙ h in
        cc

up_to_more : (n m : ℕ) (os : List Op) → n ≤ m → AllByRecursion (λ o. o.id.counter ≤ n) os → AllByRecursion (λ o. o.id.counter ≤ m) os
up_to_more n m [] l a = tt
up_to_more n m (o ∷ os) l a = let b = a.0 in (omega arith, up_to_more n m os l a.1)

module _ (script : List Cmd) (h : Held) (c : Context) (i : Id) (k : Op) (ready : IsReadyToStep (state_of script h c)) (takes : TakesOp (state_of script h c) i k) where
  pub handed : IsHanded k
  handed = found_in IsHanded i h.recv k ready.handed takes.received

  pub own : k.id ≡ i
  own = (looked_up i h.recv k takes.received).0

  pub fresh : IsUnlinked k.id c
  fresh = ready.linked k.id (ap (λ (j : Id). has_id j h.ops) own ∙ takes.new)

  pub above : greatest_of i.replica h.ops < i.counter
  above =
      let least : 1 ≤ k.id.counter = handed.0 in
      above_applied i h.ops ready.counters (subst (λ (j : Id). 1 ≤ j.counter) own least) takes.new

  pub above_own : greatest_of k.id.replica h.ops < k.id.counter
  above_own = subst (λ (j : Id). greatest_of j.replica h.ops < j.counter) (sym own) above

  pub taken_back : undone_once (C.Applied i (greatest_of i.replica h.ops) h.acted) (taken_held h i) ≡ h
  taken_back =
      let w = lowered-inserted i h.ops (greatest_of i.replica h.ops) ready.counters refl (omega (arith, above)) in
      λ n. record { done = h.done; acted = h.acted; vars = h.vars; ops = w n; queue = h.queue; sent = h.sent; recv = h.recv }

  pub taken_can_back : CanBack script (C.Applied i (greatest_of i.replica h.ops) h.acted) (taken_held h i)
  taken_can_back = (is_greatest i h.ops ready.counters above, (k, takes.received))

  pub taken_ready : (d : Context) → IsChained d → ((j : Id) → j ≢ i → IsUnlinked j c → IsUnlinked j d) → IsReadyToStep (state_of script (taken_held h i) d)
  taken_ready d chained unlinked =
      let counter : k.id.counter ≡ i.counter = ap (λ (j : Id). j.counter) own in
      let least = handed.0 in
      let great = handed.1 in
      let most = greatest_after i h.ops ready.counters in
      record {
        chained = chained;
        linked = still_linked c d h.ops i (omega (arith, counter, least)) ready.linked unlinked;
        named = ready.named;
        counters = counters_after i h.ops ready.counters;
        in_order = ready.in_order;
        numbered = up_to_more (greatest h.ops) (greatest (union (ids_up_to i.replica i.counter) h.ops)) h.queue (omega (arith, most)) ready.numbered;
        received = ready.received;
        handed = ready.handed;
        short = ready.short;
        counted = omega (arith, most, counter, great, ready.counted, ready.short);
      }

pub takes_event : (p : ℕ) (script : List Cmd) (h : Held) (c d : Context) (i : Id) (k : Op) (u v : Rows) → TakesOp (state_of script h c) i k → u ≡ opened no_rows R.ApplyRemote → Derives (Operate c k) (ToContext d) u v → Leading p (E.Apply p i) [] (state_of script h c) (state_of script (taken_held h i) d) (at_depth 0 v)
takes_event p script h c d i k u v t ue de set os A stands own read = leads_taken set p A (state_of script h c) stands i k d os u v t ue de

-- at a yield a due operation can be taken
pub takes_due : (K : State) (received : List Op) (applied : List Id) (i : Id) (o : Op) (rest : List Cmd) → K.left ≡ Yield ∷ rest → K.recv ≡ received → K.ops ≡ applied → IsDueOp received applied i o → TakesOp K i o
takes_due K received applied i o rest l recv ops due = record {
  rest = rest;
  yields = l;
  received = ap (op_of i) recv ∙ due.found;
  new = ap (has_id i) ops ∙ due.new;
  deps = subst (AreIn o.deps) (sym ops) due.deps;
}

-- The step, where the operation's identifier was added.
module _ {script : List Cmd} {t : Tree} {rs : List Record} {h : Held} (kept : IsReplica script t rs h) (i : Id) (k : Op) (takes : TakesOp (state_of script h t.now) i k) (ops : List Id) (added : ops ≡ union (ids_up_to k.id.replica k.id.counter) h.ops) where
  now_held : held_of h.done true h.vars ops h.queue h.sent h.recv ≡ taken_held h i
  now_held =
      let is : ops ≡ union (ids_up_to i.replica i.counter) h.ops = added ∙ ap (λ (j : Id). union (ids_up_to j.replica j.counter) h.ops) (own script h t.now i k (ready_now kept) takes) in
      ap (λ (s : List Id). held_of h.done true h.vars s h.queue h.sent h.recv) is

  pub taken_step : (u : Tree) (ss : List Record) (mark : Mark) (before : ℕ) → IsLater t u → ss ≡ rs ++ record { mark = mark; change = C.Applied i before h.acted } ∷ [] → mark.changes ≡ length t.earlier → before ≡ greatest_of k.id.replica h.ops → IsChained u.now → ((j : Id) → j ≢ k.id → IsUnlinked j t.now → IsUnlinked j u.now) → Stepped script t u rs ss h (held_of h.done true h.vars ops h.queue h.sent h.recv)
  taken_step u ss mark before later se me be chained unlinked =
      let ready = ready_now kept in
      let at = own script h t.now i k ready takes in
      let was : before ≡ greatest_of i.replica h.ops = be ∙ ap (λ (j : Id). greatest_of j.replica h.ops) at in
      let r : Record = record { mark = mark; change = C.Applied i (greatest_of i.replica h.ops) h.acted } in
      let se2 : ss ≡ rs ++ r ∷ [] = se ∙ ap (λ (n : ℕ). rs ++ record { mark = mark; change = C.Applied i n h.acted } ∷ []) was in
      let others : (j : Id) → j ≢ i → IsUnlinked j t.now → IsUnlinked j u.now = λ j ne. unlinked j (λ e. ne (e ∙ at)) in
      subst (λ (x : Held). Stepped script t u rs ss h x) (sym now_held)
      (stepped kept u ss r (taken_held h i) later se2 me (taken_back script h t.now i k ready takes) (taken_can_back script h t.now i k ready takes) (taken_ready script h t.now i k ready takes u.now chained others) (record { done = kept.bounds.done; sent = kept.bounds.sent }))

  pub taken_leads : (p : ℕ) (d : Context) (u v w : Rows) → u ≡ opened no_rows R.ApplyRemote → Derives (Operate t.now k) (ToContext d) u v → w ≡ at_depth 0 v → Leading p (E.Apply p i) [] (state_of script h t.now) (state_of script (held_of h.done true h.vars ops h.queue h.sent h.recv) d) w
  taken_leads p d u v w ue de we =
      subst (λ (x : Held × Rows). Leading p (E.Apply p i) [] (state_of script h t.now) (state_of script x.0 d) x.1) (λ n. (sym now_held n, sym we n)) (takes_event p script h t.now d i k u v takes ue de)

-- the cause of a premise
pub some_each : (x : Option Cause) (P Q : Cause → Type 0) → ((why : Cause) → P why → Q why) → IfSome x P → IfSome x Q
some_each None P Q f h = tt
some_each (Some why) P Q f h = f why h

pub refused_all : (old : ReplicaHistory) (i : Id) (k : Op) (c : Context) (fault : ReplicaFault) → c ≡ old.history.now.tree → TakesOp old.history.now i k → IfSome (fault_cause_of fault) (λ why. (deps : List Id) → Refused (Operate c (with_deps deps k)) why) → IsEventRefused (E.Apply old.number i) [] old fault
refused_all old i k c fault e t h =
    some_each (fault_cause_of fault) (λ why. (deps : List Id) → Refused (Operate c (with_deps deps k)) why) (RefusedFor (E.Apply old.number i) [] old)
    (λ why r set os A stands read. refused_taken set old.number A old.history.now stands i k os why t (subst (λ (x : Context). (deps : List Id) → Refused (Operate x (with_deps deps k)) why) e r)) h

-- what isn't found
pub none_found : {X : Type 0} (o : Option (Bor X)) → ((x : Bor X) → o ≡ Some x → ⊥) → option_copied o ≡ None
none_found None h = refl
none_found (Some x) h = absurd (h x refl)
