-- Lemmas about NextCommand: a command makes an operation, from what is held before to what is held after.
use Rattle.std.proofs.Common.{◌≡◌, ◌≢◌, ℕ, zero, suc, ◌+◌, ◌-◌, ◌<◌, ◌≤◌, List, [], ◌∷◌, ◌++◌, length, take, drop, refl, sym, ◌∙◌, ap, subst, arith, length-append}
use Rattle.jc_rules.specs.declared.id.Id.{Id}
use Rattle.jc_rules.specs.declared.operation.Event.TheVariants as E
use Rattle.jc_rules.specs.declared.operation.Op.{Op}
use Rattle.jc_rules.specs.Context.{Context}
use Rattle.jc_rules.specs.Derivation.{Operate, ToContext}
use Rattle.jc_rules.specs.Derives.{Derives}
use Rattle.jc_rules.specs.VersionVectors.{covered, ids_up_to, greatest_of}
use Rattle.jc_rules.specs.Ids.{union, greatest}
use Rattle.jc_rules.specs.WellFormed.{IsChained}
use Rattle.jc_rules.specs.Syntax.{Cmd}
use Rattle.jc_rules.specs.Table.{with_op}
use Rattle.jc_rules.specs.Trace.{Rows, at_depth}
use Rattle.jc_rules.proofs.WithdrawLemmas.{lowered-inserted}
use Rattle.jc_tree.specs.declared.store.Mark.{Mark}
use Rattle.jc_rules.specs.History.{IsLater}
use Rattle.jc_tree.specs.Tree.{Tree}
use Rattle.jc_apply.specs.Fits.{IsUnlinked}
use Rattle.jc_vectors.specs.StoredStates.{after_making_stored}
use Rattle.jc_replica.specs.declared.record.Change.TheVariants as C
use Rattle.jc_replica.specs.declared.record.Record.{Record}
use Rattle.jc_replica.specs.Answers.{Occurs}
use Rattle.jc_replica.specs.Invariant.{HasEnded, CanBack, IsInBounds, IsReplica}
use Rattle.jc_replica.specs.NextCommand.{IsMaking, MakesOp}
use Rattle.jc_replica.specs.ReplicaHistory.{ReplicaHistory, no_rows}
use Rattle.jc_replica.specs.ReadyToStep.{IsReadyToStep}
use Rattle.jc_replica.specs.Undo.{Held, held_of, undone_once, state_of, replica_history_of}
use Rattle.jc_replica.proofs.InvariantAddLemmas.{not_there, counters_after, greatest_after, is_greatest, still_linked}
use Rattle.jc_replica.proofs.AnswersLemmas.{Leading, ready_now, occurs}
use Rattle.jc_replica.proofs.NextCommandSeenLemmas.{leads_made}
use Rattle.jc_replica.proofs.QueueLemmas.{with_op-last, up_to-pushed, in_order-pushed, front}
use Rattle.jc_replica.proofs.ScriptLemmas.{drop-more, one_less, one_more_fits, has_ended}
use Rattle.jc_replica.proofs.UndoStepsLemmas.{Stepped, stepped}
use Rattle.jc_rules.proofs.IdSetLemmas.{greatest_of_below}

-- with the operation
abbrev pub made_held : Held → Op → Held
made_held h o = held_of (h.done + 1) h.acted h.vars (union (ids_up_to o.id.replica o.id.counter) h.ops) (h.queue ++ o ∷ []) h.sent h.recv

module _ (script : List Cmd) (h : Held) (c : Context) (o : Op) (ready : IsReadyToStep (state_of script h c)) (new : o.id.counter ≡ greatest h.ops + 1) where
  pub above : greatest_of o.id.replica h.ops < o.id.counter
  above = omega (arith, new, greatest_of_below o.id.replica h.ops)

  pub made_back : undone_once (C.Made o.id (greatest_of o.id.replica h.ops)) (made_held h o) ≡ h
  made_back =
      let d : h.done + 1 - 1 ≡ h.done = omega arith in
      let q = front h.queue o in
      let w = lowered-inserted o.id h.ops (greatest_of o.id.replica h.ops) ready.counters refl (omega (arith, above)) in
      λ i. record { done = d i; acted = h.acted; vars = h.vars; ops = w i; queue = q i; sent = h.sent; recv = h.recv }

  pub made_can_back : h.sent ≤ length h.queue → HasEnded IsMaking script (h.done + 1) → CanBack script (C.Made o.id (greatest_of o.id.replica h.ops)) (made_held h o)
  made_can_back l ended = (is_greatest o.id h.ops ready.counters above, omega (arith, l, length-append h.queue (o ∷ [])), ended)

  module _ (x : Cmd) (rest : List Cmd) (left : drop h.done script ≡ x ∷ rest) where
    pub made_ready : (d : Context) → IsChained d → ((j : Id) → j ≢ o.id → IsUnlinked j c → IsUnlinked j d) → IsReadyToStep (state_of script (made_held h o) d)
    made_ready d chained unlinked =
        let less = one_less h.done script x rest left in
        let most = greatest_after o.id h.ops ready.counters in
        record {
          chained = chained;
          linked = still_linked c d h.ops o.id (omega (arith, new)) ready.linked unlinked;
          named = ready.named;
          counters = counters_after o.id h.ops ready.counters;
          in_order = in_order-pushed (greatest h.ops) o h.queue ready.in_order ready.numbered (omega (arith, new));
          numbered = up_to-pushed (greatest h.ops) (greatest (union (ids_up_to o.id.replica o.id.counter) h.ops)) o h.queue ready.numbered (omega (arith, most)) (omega (arith, most));
          received = ready.received;
          handed = ready.handed;
          short = omega (arith, less, ready.short);
          counted = omega (arith, less, most, new, ready.counted);
        }

-- the offered ones stay
still_sent : (n : ℕ) (os : List Op) (o : Op) → n ≤ length os → take n (os ++ o ∷ []) ≡ take n os
still_sent n os o l = go n os l
  where
    go : (n : ℕ) (xs : List Op) → n ≤ length xs → take n (xs ++ o ∷ []) ≡ take n xs
    go zero xs l = refl
    go (suc n) [] l = absurd (omega (arith, l))
    go (suc n) (x ∷ xs) l = ap (λ (y : List Op). x ∷ y) (go n xs (omega (arith, l)))

pub makes_event : (p : ℕ) (script : List Cmd) (h : Held) (c d : Context) (o : Op) (u v : Rows) → IsReadyToStep (state_of script h c) → o.id.counter ≡ greatest h.ops + 1 → h.sent ≤ length h.queue → MakesOp (state_of script h c) p o no_rows u → Derives (Operate c o) (ToContext d) u v → Leading p (E.Exec p) [] (state_of script h c) (state_of script (made_held h o) d) (at_depth 0 v)
makes_event p script h c d o u v ready new sent m de set os A stands own read =
    let K = state_of script h c in
    let left : drop (h.done + 1) script ≡ m.next.rest = drop-more h.done script m.next.command m.next.rest m.next.next in
    let queue : h.queue ++ o ∷ [] ≡ with_op o h.queue = sym (with_op-last (greatest h.ops) o h.queue ready.numbered (omega (arith, new))) in
    let send = still_sent h.sent h.queue o sent in
    let is : state_of script (made_held h o) d ≡ record (after_making_stored o d K) { left = m.next.rest } =
    λ i. record { left = left i; acted = h.acted; vars = h.vars; tree = d; ops = union (ids_up_to o.id.replica o.id.counter) h.ops; queue = queue i; send = send i; recv = h.recv } in
    leads_made set p A K stands own os o d (state_of script (made_held h o) d) u v (at_depth 0 v) m de is refl

-- the step of a command that makes an operation
module _ {script : List Cmd} {t : Tree} {rs : List Record} {h : Held} (k : IsReplica script t rs h) (number : ℕ) (o : Op) (t0 u : Rows) (none : t0 ≡ no_rows) (m0 : MakesOp (state_of script h t.now) number o t0 u) where
  m : MakesOp (state_of script h t.now) number o no_rows u
  m = subst (λ (r : Rows). MakesOp (state_of script h t.now) number o r u) none m0

  ready : IsReadyToStep (state_of script h t.now)
  ready = ready_now k

  new : o.id.counter ≡ greatest h.ops + 1
  new = ap (λ (x : Op). x.id.counter) m.is

  pub op_fresh : IsUnlinked o.id t.now
  op_fresh = ready.linked o.id (not_there o.id h.ops (omega (arith, new)))

  pub op_counters : h.ops ≡ covered h.ops
  op_counters = ready.counters

  pub op_above : greatest_of o.id.replica h.ops < o.id.counter
  op_above = above script h t.now o ready new

  module _ (d : Tree) (ss : List Record) (h2 : Held) (mark : Mark) (before : ℕ) (he : h2 ≡ made_held h o) (later : IsLater t d) (chained : IsChained d.now) (unlinked : (j : Id) → j ≢ o.id → IsUnlinked j t.now → IsUnlinked j d.now) (se : ss ≡ rs ++ (record { mark = mark; change = C.Made o.id before }) ∷ []) (me : mark.changes ≡ length t.earlier) (be : before ≡ greatest_of o.id.replica h.ops) where
    made_step : Stepped script t d rs ss h h2
    made_step =
        let r : Record = record { mark = mark; change = C.Made o.id before } in
        let back_is : undone_once r.change (made_held h o) ≡ h = ap (λ (n : ℕ). undone_once (C.Made o.id n) (made_held h o)) be ∙ made_back script h t.now o ready new in
        let ended = has_ended IsMaking h.done script m.next.command m.next.rest m.next.next m.next.makes in
        let can : CanBack script r.change (made_held h o) = subst (λ (n : ℕ). CanBack script (C.Made o.id n) (made_held h o)) (sym be) (made_can_back script h t.now o ready new k.bounds.sent ended) in
        let bounds : IsInBounds script (made_held h o) = record { done = one_more_fits h.done script m.next.command m.next.rest m.next.next; sent = omega (arith, k.bounds.sent, length-append h.queue (o ∷ [])) } in
        subst (λ (x : Held). Stepped script t d rs ss h x) (sym he) (stepped k d ss r (made_held h o) later se me back_is can (made_ready script h t.now o ready new m.next.command m.next.rest m.next.next d.now chained unlinked) bounds)

    pub made_kept_replica : IsReplica script d ss h2
    made_kept_replica = made_step.kept

    pub made_occurs : (p : ReplicaHistory) → replica_history_of number script t rs h ≡ p → (v w : Rows) → Derives (Operate t.now o) (ToContext d.now) u v → w ≡ at_depth 0 v → Occurs (E.Exec p.number) [] p (replica_history_of number script d ss h2) w
    made_occurs p pe v w de we =
        let leading : Leading number (E.Exec number) [] (state_of script h t.now) (state_of script (made_held h o) d.now) (at_depth 0 v) = makes_event number script h t.now d.now o u v ready new k.bounds.sent m de in
        occurs k number p pe E.Exec [] d ss h2 w
        (subst (λ (x : Held). Leading number (E.Exec number) [] (state_of script h t.now) (state_of script x d.now) w) (sym he)
        (subst (λ (x : Rows). Leading number (E.Exec number) [] (state_of script h t.now) (state_of script (made_held h o) d.now) x) (sym we) leading))
        made_step.earlier
