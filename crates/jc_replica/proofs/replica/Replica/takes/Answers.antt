use Rattle.std.proofs.Common.{sym, ap}
use Rattle.std.proofs.lemmas.Result.{IfOk-weaker, IfErr-weaker}
use Rattle.jc_replica.specs.ReplicaHistory.{ReplicaHistory}
use Rattle.jc_replica.proofs.MayApplyLemmas.{takes_due}
use Rattle.jc_replica.proofs.replica.Replica.takes.Goals as goal

pub returns-clause-ok : goal.returns-clause-ok
returns-clause-ok g c =
    let y = c.in_ok-at_yield.ensures.ok in
    let recv = ap (λ (p : ReplicaHistory). p.history.now.recv) (sym c.self.view_is) in
    let ops = ap (λ (p : ReplicaHistory). p.history.now.ops) (sym c.self.view_is) in
    IfOk-weaker c.due_op.result _ _ (λ op due. takes_due c.args.self.now.history.now _ _ c.args.id op.now y.0 y.1 recv ops due) c.due_op.ensures.ok

pub returns-clause-err : goal.returns-clause-err
returns-clause-err g c =
    let y = c.in_ok-at_yield.ensures.ok in
    let recv = ap (λ (p : ReplicaHistory). p.history.now.recv) (sym c.self.view_is) in
    let ops = ap (λ (p : ReplicaHistory). p.history.now.ops) (sym c.self.view_is) in
    IfErr-weaker c.due_op.result _ _ (λ f undue. undue c.args.self.now y.0 y.1 recv ops) c.due_op.ensures.err
