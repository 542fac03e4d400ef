use Rattle.std.proofs.Common.{rules, ◌≡◌, ◌++◌, ◌∷◌, [], map, refl, sym, ap, ◌∙◌}
use Rattle.std.proofs.lemmas.Result.{err_from_is_err_and}
use Rattle.jc_rules.specs.declared.operation.Event.TheVariants as E
use Rattle.jc_rules.specs.declared.rule.Rule.TheVariants as R
use Rattle.jc_rules.specs.Trace.{at_depth}
use Rattle.jc_syntax.specs.Trees.{cmd_of}
use Rattle.jc_cursor.specs.Bounds.{vars_of}
use Rattle.jc_replica.specs.declared.record.Change.TheVariants as C
use Rattle.jc_replica.specs.NextCommand.{opened}
use Rattle.jc_replica.specs.ReplicaHistory.{ReplicaHistory, no_rows}
use Rattle.jc_replica.specs.Undo.{Held, held_of, state_of, replica_history_of}
use Rattle.jc_replica.proofs.AnswersLemmas.{ready_now, occurs}
use Rattle.jc_replica.proofs.MayApplyLemmas.{takes_due, fresh, above_own, taken_step, taken_leads, refused_all}
use Rattle.jc_replica.proofs.replica.Replica.apply.Goals as goal

pub apply_to-requires-clause-fresh : goal.apply_to-requires-clause-fresh
apply_to-requires-clause-fresh g c =
    let i = c.self.inside in
    let t = g.S.TreeStore.tree i.store in
    let script = map cmd_of i.script.items in
    let h : Held = held_of i.done i.acted (vars_of i.vars.entries) i.ops i.queue.items i.sent i.recv in
    let y = c.in_ok-at_yield.ensures.ok in
    let left = ap (λ (p : ReplicaHistory). p.history.now.left) c.self.view_is ∙ y.1 in
    let takes = takes_due (state_of script h t.now) i.recv i.ops c.args.id c.in_ok-op.op.now y.0 left refl refl c.in_ok-op.ensures.ok in
    fresh script h t.now c.args.id c.in_ok-op.op.now (ready_now c.self.invariant) takes

pub apply_to-requires-clause-counters : goal.apply_to-requires-clause-counters
apply_to-requires-clause-counters g c = (ready_now c.self.invariant).counters

pub apply_to-requires-clause-above : goal.apply_to-requires-clause-above
apply_to-requires-clause-above g c =
    let i = c.self.inside in
    let t = g.S.TreeStore.tree i.store in
    let script = map cmd_of i.script.items in
    let h : Held = held_of i.done i.acted (vars_of i.vars.entries) i.ops i.queue.items i.sent i.recv in
    let y = c.in_ok-at_yield.ensures.ok in
    let left = ap (λ (p : ReplicaHistory). p.history.now.left) c.self.view_is ∙ y.1 in
    let takes = takes_due (state_of script h t.now) i.recv i.ops c.args.id c.in_ok-op.op.now y.0 left refl refl c.in_ok-op.ensures.ok in
    above_own script h t.now c.args.id c.in_ok-op.op.now (ready_now c.self.invariant) takes

pub returns-in_err-before : goal.returns-in_err-before
returns-in_err-before g c =
    let i = c.self.inside in
    let script = map cmd_of i.script.items in
    let y = c.in_ok-at_yield.ensures.ok in
    let recv = ap (λ (p : ReplicaHistory). p.history.now.recv) (sym c.self.view_is) in
    let were = ap (λ (p : ReplicaHistory). p.history.now.ops) (sym c.self.view_is) in
    let takes = takes_due c.args.self.now.history.now i.recv i.ops c.args.id c.in_ok-op.op.now y.0 y.1 recv were c.in_ok-op.ensures.ok in
    let p = err_from_is_err_and c.from_residual-in_err-before.result c.from_residual-in_err-before.ensures.1 in
    let tree = c.in_err-before.ensures.err_store in
    let ops = c.in_err-before.ensures.err_ops in
    let steps = c.in_ok-reserve.ensures.items in
    let same = (λ n. replica_history_of i.number script (tree n) (steps n) (held_of i.done i.acted (vars_of i.vars.entries) (ops n) i.queue.items i.sent i.recv)) ∙ c.self.view_is in
    rw (p.1, p.2) (same, refused_all c.args.self.now c.args.id c.in_ok-op.op.now (g.S.TreeStore.tree i.store).now c.in_err-before.field-0.0 (ap (λ (q : ReplicaHistory). q.history.now.tree) c.self.view_is) takes c.in_err-before.ensures.refused)

pub invariant_of-self-2 : goal.invariant_of-self-2
invariant_of-self-2 g c =
    let i = c.self.inside in
    let t = g.S.TreeStore.tree i.store in
    let u = g.S.TreeStore.tree c.apply_to.new.store in
    let script = map cmd_of i.script.items in
    let h : Held = held_of i.done i.acted (vars_of i.vars.entries) i.ops i.queue.items i.sent i.recv in
    let y = c.in_ok-at_yield.ensures.ok in
    let left = ap (λ (p : ReplicaHistory). p.history.now.left) c.self.view_is ∙ y.1 in
    let takes = takes_due (state_of script h t.now) i.recv i.ops c.args.id c.in_ok-op.op.now y.0 left refl refl c.in_ok-op.ensures.ok in
    let one : c.push.new.self.items ≡ i.steps.items ++ record { mark = c.mark-mark.result; change = C.Applied c.args.id c.in_ok-before.before i.acted } ∷ [] = search rules in
    let done = c.in_ok-before.ensures in
    (taken_step c.self.invariant c.args.id c.in_ok-op.op.now takes c.apply_to.new.ops done.ops u c.push.new.self.items c.mark-mark.result c.in_ok-before.before done.later one c.mark-mark.ensures done.before done.chained done.unlinked).kept

pub returns : goal.returns
returns g c =
    let i = c.self.inside in
    let t = g.S.TreeStore.tree i.store in
    let u = g.S.TreeStore.tree c.apply_to.new.store in
    let script = map cmd_of i.script.items in
    let h : Held = held_of i.done i.acted (vars_of i.vars.entries) i.ops i.queue.items i.sent i.recv in
    let y = c.in_ok-at_yield.ensures.ok in
    let left = ap (λ (p : ReplicaHistory). p.history.now.left) c.self.view_is ∙ y.1 in
    let takes = takes_due (state_of script h t.now) i.recv i.ops c.args.id c.in_ok-op.op.now y.0 left refl refl c.in_ok-op.ensures.ok in
    let one : c.push.new.self.items ≡ i.steps.items ++ record { mark = c.mark-mark.result; change = C.Applied c.args.id c.in_ok-before.before i.acted } ∷ [] = search rules in
    let done = c.in_ok-before.ensures in
    let s = taken_step c.self.invariant c.args.id c.in_ok-op.op.now takes c.apply_to.new.ops done.ops u c.push.new.self.items c.mark-mark.result c.in_ok-before.before done.later one c.mark-mark.ensures done.before done.chained done.unlinked in
    let before : c.open.new.self ≡ opened no_rows R.ApplyRemote = search rules in
    let after : c.close.new.self ≡ at_depth 0 c.apply_to.new.trace = search rules in
    occurs c.self.invariant i.number _ c.self.view_is (λ p. E.Apply p c.args.id) [] u c.push.new.self.items _ _ (taken_leads c.self.invariant c.args.id c.in_ok-op.op.now takes c.apply_to.new.ops done.ops _ u.now c.open.new.self c.apply_to.new.trace _ before done.ok after) s.earlier

-- no operation is due
pub returns-in_err-op : goal.returns-in_err-op
returns-in_err-op g c =
    let y = c.in_ok-at_yield.ensures.ok in
    let recv = ap (λ (p : ReplicaHistory). p.history.now.recv) (sym c.self.view_is) in
    let were = ap (λ (p : ReplicaHistory). p.history.now.ops) (sym c.self.view_is) in
    let p = err_from_is_err_and c.from_residual-in_err-op.result c.from_residual-in_err-op.ensures.1 in
    rw (p.1, p.2) (refl, c.in_err-op.ensures.err c.args.self.now y.0 y.1 recv were)
