-- Lemmas about NextCommand: a command binds a variable, from what is held before to what is held after.
use Rattle.std.proofs.Common.{◌≡◌, ℕ, ◌+◌, ◌-◌, List, [], ◌∷◌, ◌++◌, length, drop, Option, refl, sym, ◌∙◌, ap, subst, arith}
use Rattle.std.specs.Global.{Box}
use Rattle.jc_rules.specs.declared.operation.Event.TheVariants as E
use Rattle.jc_rules.specs.Context.{Context}
use Rattle.jc_rules.specs.Entries.{IsRising, keys_of}
use Rattle.jc_rules.specs.Order.{name_cmp}
use Rattle.jc_rules.specs.State.{Bound}
use Rattle.jc_rules.specs.Syntax.{Cmd}
use Rattle.jc_rules.specs.Table.{bind}
use Rattle.jc_rules.specs.Trace.{Rows, at_depth}
use Rattle.jc_rules.proofs.EntriesLemmas.{rising-put}
use Rattle.jc_rules.proofs.OrderLemmas.{names_total, exact_names}
use Rattle.jc_tree.specs.declared.store.Mark.{Mark}
use Rattle.jc_tree.specs.Tree.{Tree}
use Rattle.jc_cursor.specs.declared.bound.Bound.{Bound as BoundInMemory}
use Rattle.jc_replica.specs.declared.record.Change.TheVariants as C
use Rattle.jc_replica.specs.declared.record.Record.{Record}
use Rattle.jc_replica.specs.Answers.{Occurs}
use Rattle.jc_replica.specs.Variables.{IsBound}
use Rattle.jc_replica.specs.Invariant.{IsInBounds, IsReplica}
use Rattle.jc_replica.specs.NextCommand.{IsLet, Binds}
use Rattle.jc_replica.specs.ReplicaHistory.{ReplicaHistory, no_rows}
use Rattle.jc_replica.specs.ReadyToStep.{IsReadyToStep}
use Rattle.jc_replica.specs.Undo.{Held, held_of, undone_once, state_of, replica_history_of, was_bound}
use Rattle.jc_replica.proofs.VariablesSeenLemmas.{leads_bound}
use Rattle.jc_replica.proofs.AnswersLemmas.{Leading, ready_now, occurs}
use Rattle.jc_replica.proofs.ScriptLemmas.{drop-more, one_less, one_more_fits, has_ended}
use Rattle.jc_replica.proofs.UndoStepsLemmas.{Stepped, stepped}
use Rattle.jc_rules.proofs.HistoryLemmas.{still}

abbrev pub bound_held : Held → List (List ℕ × Bound) → Held
bound_held h vars = held_of (h.done + 1) h.acted vars h.ops h.queue h.sent h.recv

module _ (script : List Cmd) (h : Held) (vars : List (List ℕ × Bound)) (x : List ℕ) (b : Bound) (before : Option (Box BoundInMemory)) (is : IsBound x b (was_bound before) h.vars vars) where
  pub bound_back : undone_once (C.Bound x before) (bound_held h vars) ≡ h
  bound_back =
      let d : h.done + 1 - 1 ≡ h.done = omega arith in
      λ i. record { done = d i; acted = h.acted; vars = is.back i; ops = h.ops; queue = h.queue; sent = h.sent; recv = h.recv }

  pub bound_ready : (c : Context) → IsReadyToStep (state_of script h c) → (y : Cmd) (rest : List Cmd) → drop h.done script ≡ y ∷ rest → IsReadyToStep (state_of script (bound_held h vars) c)
  bound_ready c r y rest left =
      let less = one_less h.done script y rest left in
      record {
        chained = r.chained;
        linked = r.linked;
        named = subst (λ (vs : List (List ℕ × Bound)). IsRising name_cmp (keys_of vs)) (sym is.bound) (rising-put names_total exact_names x b h.vars r.named);
        counters = r.counters;
        in_order = r.in_order;
        numbered = r.numbered;
        received = r.received;
        handed = r.handed;
        short = omega (arith, less, r.short);
        counted = omega (arith, less, r.counted);
      }

  pub binds_event : (p : ℕ) (c : Context) (u : Rows) → Binds (state_of script h c) x b no_rows u → Leading p (E.Exec p) [] (state_of script h c) (state_of script (bound_held h vars) c) (at_depth 0 u)
  binds_event p c u m set os A stands own read =
      let K = state_of script h c in
      let left : drop (h.done + 1) script ≡ m.next.rest = drop-more h.done script _ m.next.rest m.next.next in
      let same : state_of script (bound_held h vars) c ≡ record K { left = m.next.rest; vars = bind x b K.vars } = ap (λ (l : List Cmd). record K { left = l; vars = vars }) left ∙ ap (λ (vs : List (List ℕ × Bound)). record K { left = m.next.rest; vars = vs }) is.bound in
      leads_bound set p A K stands os x b (state_of script (bound_held h vars) c) u (at_depth 0 u) m same refl

-- the step of a command that binds a variable
module _ {script : List Cmd} {t : Tree} {rs : List Record} {h : Held} (k : IsReplica script t rs h) (number : ℕ) (x : List ℕ) (b : Bound) (t0 u : Rows) (none : t0 ≡ no_rows) (m0 : Binds (state_of script h t.now) x b t0 u) (vars : List (List ℕ × Bound)) (before : Option (Box BoundInMemory)) (is : IsBound x b (was_bound before) h.vars vars) (ss : List Record) (h2 : Held) (mark : Mark) (he : h2 ≡ bound_held h vars) (se : ss ≡ rs ++ (record { mark = mark; change = C.Bound x before }) ∷ []) (me : mark.changes ≡ length t.earlier) where
  m : Binds (state_of script h t.now) x b no_rows u
  m = subst (λ (r : Rows). Binds (state_of script h t.now) x b r u) none m0

  bound_step : Stepped script t t rs ss h h2
  bound_step =
      let r : Record = record { mark = mark; change = C.Bound x before } in
      let bounds : IsInBounds script (bound_held h vars) = record { done = one_more_fits h.done script _ m.next.rest m.next.next; sent = k.bounds.sent } in
      subst (λ (y : Held). Stepped script t t rs ss h y) (sym he) (stepped k t ss r (bound_held h vars) (still t) se me (bound_back script h vars x b before is) (has_ended IsLet h.done script _ m.next.rest m.next.next tt) (bound_ready script h vars x b before is t.now (ready_now k) _ m.next.rest m.next.next) bounds)

  pub bound_kept_replica : IsReplica script t ss h2
  bound_kept_replica = bound_step.kept

  pub bound_occurs : (p : ReplicaHistory) → replica_history_of number script t rs h ≡ p → (w : Rows) → w ≡ at_depth 0 u → Occurs (E.Exec p.number) [] p (replica_history_of number script t ss h2) w
  bound_occurs p pe w we =
      let leading = binds_event script h vars x b before is number t.now u m in
      occurs k number p pe E.Exec [] t ss h2 w
      (subst (λ (y : Held). Leading number (E.Exec number) [] (state_of script h t.now) (state_of script y t.now) w) (sym he)
      (subst (λ (y : Rows). Leading number (E.Exec number) [] (state_of script h t.now) (state_of script (bound_held h vars) t.now) y) (sym we) leading))
      bound_step.earlier
