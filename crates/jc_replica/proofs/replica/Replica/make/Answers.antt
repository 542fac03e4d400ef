use Rattle.std.proofs.Common.{rules, ◌≡◌, ◌+◌, [], ◌∷◌, ◌++◌, List, ap, refl, sym, ◌∙◌, subst, map}
use Rattle.jc_rules.specs.declared.id.Id.{Id}
use Rattle.jc_rules.specs.declared.operation.Event.TheVariants as E
use Rattle.jc_rules.specs.declared.operation.Op.{Op}
use Rattle.jc_rules.specs.Context.{Context}
use Rattle.jc_rules.specs.Derivation.{Operate}
use Rattle.jc_rules.specs.Refused.{Refused}
use Rattle.jc_rules.specs.Trace.{at_depth}
use Rattle.jc_syntax.specs.Trees.{cmd_of}
use Rattle.jc_cursor.specs.Bounds.{vars_of}
use Rattle.jc_vectors.specs.OperationIds.{with_deps}
use Rattle.jc_vectors.specs.StoredStates.{new_op}
use Rattle.jc_replica.specs.declared.record.Change.TheVariants as C
use Rattle.jc_replica.specs.declared.record.Record.{Record}
use Rattle.jc_replica.specs.Answers.{fault_cause_of}
use Rattle.jc_replica.specs.NextCommand.{MakesOp, mutation_by}
use Rattle.jc_replica.specs.ReplicaHistory.{ReplicaHistory}
use Rattle.jc_replica.specs.Undo.{Held, held_of, replica_history_of}
use Rattle.jc_replica.proofs.NextCommandLemmas.{made_held, op_fresh, op_counters, op_above, made_kept_replica, made_occurs}
use Rattle.jc_replica.proofs.NextCommandSeenLemmas.{refused_made}
use Rattle.jc_replica.proofs.RefusedLemmas.{for_cause, refused_call}
use Rattle.jc_replica.proofs.replica.Replica.make.Goals as goal

pub apply_to-requires-clause-fresh : goal.apply_to-requires-clause-fresh
apply_to-requires-clause-fresh g c =
    let m = subst (λ (p : ReplicaHistory). MakesOp p.history.now p.number c.in_ok-op.op c.new-trace.result c.make_op.new.trace) (sym c.self.view_is) c.in_ok-op.ensures.ok in
    op_fresh c.self.invariant c.self.inside.number c.in_ok-op.op _ _ c.new-trace.ensures m

pub apply_to-requires-clause-counters : goal.apply_to-requires-clause-counters
apply_to-requires-clause-counters g c =
    let m = subst (λ (p : ReplicaHistory). MakesOp p.history.now p.number c.in_ok-op.op c.new-trace.result c.make_op.new.trace) (sym c.self.view_is) c.in_ok-op.ensures.ok in
    op_counters c.self.invariant c.self.inside.number c.in_ok-op.op _ _ c.new-trace.ensures m

pub apply_to-requires-clause-above : goal.apply_to-requires-clause-above
apply_to-requires-clause-above g c =
    let m = subst (λ (p : ReplicaHistory). MakesOp p.history.now p.number c.in_ok-op.op c.new-trace.result c.make_op.new.trace) (sym c.self.view_is) c.in_ok-op.ensures.ok in
    op_above c.self.invariant c.self.inside.number c.in_ok-op.op _ _ c.new-trace.ensures m

pub returns-in_err-before : goal.returns-in_err-before
returns-in_err-before g c =
    let i = c.self.inside in
    let old = c.args.self.now in
    let script = map cmd_of i.script.items in
    let te = c.in_err-before.ensures.err_store in
    let oe : c.apply_to.new.ops ≡ i.ops = c.in_err-before.ensures.err_ops in
    let qe : c.reserve-2.new.self.items ≡ i.queue.items = search rules in
    let se : c.reserve.new.self.items ≡ i.steps.items = search rules in
    let same : replica_history_of i.number script (g.S.TreeStore.tree c.apply_to.new.store) c.reserve.new.self.items (held_of i.done i.acted (vars_of i.vars.entries) c.apply_to.new.ops c.reserve-2.new.self.items i.sent i.recv) ≡ old =
    (λ k. replica_history_of i.number script (te k) (se k) (held_of i.done i.acted (vars_of i.vars.entries) (oe k) (qe k) i.sent i.recv)) ∙ c.self.view_is in
    let m : MakesOp old.history.now old.number c.in_ok-op.op c.new-trace.result c.make_op.new.trace = c.in_ok-op.ensures.ok in
    let tree = ap (λ (p : ReplicaHistory). p.history.now.tree) c.self.view_is in
    refused_call (E.Exec old.number) [] old _ c.from_residual-in_err-before.result c.in_err-before.field-0.0 c.from_residual-in_err-before.ensures.1 same
    (for_cause (E.Exec old.number) [] old c.in_err-before.field-0.0 (fault_cause_of c.in_err-before.field-0.0) (λ why. (deps : List Id) → Refused (Operate (g.S.TreeStore.tree i.store).now (with_deps deps c.in_ok-op.op)) why) refl
    (λ why r. λ set os A stands of. refused_made set old.number A old.history.now stands m.next.command m.next.rest m.next.next m.next.makes os m.cursor _ _ why m.evaluates
    (λ deps. subst (λ (x : Context). Refused (Operate x (with_deps deps (new_op old.number old.history.now.ops m.cursor (mutation_by m.next.command)))) why) tree (subst (λ (o : Op). Refused (Operate (g.S.TreeStore.tree i.store).now (with_deps deps o)) why) m.is (r deps))))
    c.in_err-before.ensures.refused)

pub invariant_of-self-2 : goal.invariant_of-self-2
invariant_of-self-2 g c =
    let i = c.self.inside in
    let op = c.in_ok-op.op in
    let m = subst (λ (p : ReplicaHistory). MakesOp p.history.now p.number op c.new-trace.result c.make_op.new.trace) (sym c.self.view_is) c.in_ok-op.ensures.ok in
    let h : Held = held_of i.done i.acted (vars_of i.vars.entries) i.ops i.queue.items i.sent i.recv in
    let oe = c.in_ok-before.ensures.ops in
    let qe : c.push.new.self.items ≡ i.queue.items ++ op ∷ [] = search rules in
    let he : held_of (i.done + 1) i.acted (vars_of i.vars.entries) c.apply_to.new.ops c.push.new.self.items i.sent i.recv ≡ made_held h op =
    (λ k. held_of (i.done + 1) i.acted (vars_of i.vars.entries) (oe k) (qe k) i.sent i.recv) in
    let r : Record = record { mark = c.mark-mark.result; change = C.Made op.id c.in_ok-before.before } in
    let se : c.push-2.new.self.items ≡ i.steps.items ++ r ∷ [] = search rules in
    made_kept_replica c.self.invariant i.number op _ _ c.new-trace.ensures m (g.S.TreeStore.tree c.apply_to.new.store) c.push-2.new.self.items _ c.mark-mark.result c.in_ok-before.before he c.in_ok-before.ensures.later c.in_ok-before.ensures.chained c.in_ok-before.ensures.unlinked se c.mark-mark.ensures c.in_ok-before.ensures.before

pub returns : goal.returns
returns g c =
    let i = c.self.inside in
    let op = c.in_ok-op.op in
    let m = subst (λ (p : ReplicaHistory). MakesOp p.history.now p.number op c.new-trace.result c.make_op.new.trace) (sym c.self.view_is) c.in_ok-op.ensures.ok in
    let h : Held = held_of i.done i.acted (vars_of i.vars.entries) i.ops i.queue.items i.sent i.recv in
    let oe = c.in_ok-before.ensures.ops in
    let qe : c.push.new.self.items ≡ i.queue.items ++ op ∷ [] = search rules in
    let he : held_of (i.done + 1) i.acted (vars_of i.vars.entries) c.apply_to.new.ops c.push.new.self.items i.sent i.recv ≡ made_held h op =
    (λ k. held_of (i.done + 1) i.acted (vars_of i.vars.entries) (oe k) (qe k) i.sent i.recv) in
    let r : Record = record { mark = c.mark-mark.result; change = C.Made op.id c.in_ok-before.before } in
    let se : c.push-2.new.self.items ≡ i.steps.items ++ r ∷ [] = search rules in
    let rows : c.close.new.self ≡ at_depth 0 c.apply_to.new.trace = search rules in
    made_occurs c.self.invariant i.number op _ _ c.new-trace.ensures m (g.S.TreeStore.tree c.apply_to.new.store) c.push-2.new.self.items _ c.mark-mark.result c.in_ok-before.before he c.in_ok-before.ensures.later c.in_ok-before.ensures.chained c.in_ok-before.ensures.unlinked se c.mark-mark.ensures c.in_ok-before.ensures.before c.args.self.now c.self.view_is c.apply_to.new.trace c.close.new.self c.in_ok-before.ensures.ok rows
