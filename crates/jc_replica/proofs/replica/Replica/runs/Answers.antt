use Rattle.std.proofs.Common.{ap, subst}
use Rattle.jc_rules.specs.declared.refusal.Refusal.TheVariants as F
use Rattle.jc_rules.specs.Context.{Context}
use Rattle.jc_rules.specs.Derivation.{Operate}
use Rattle.jc_rules.specs.Refused.{because, Refused}
use Rattle.jc_apply.specs.Fits.{EachOp}
use Rattle.jc_replica.specs.ReplicaHistory.{ReplicaHistory}
use Rattle.jc_replica.proofs.CanLemmas.{can_make_where, can_bind}
use Rattle.jc_replica.proofs.AnswersLemmas.{ready_now}
use Rattle.jc_replica.proofs.PassesLemmas.{IsFree}
use Rattle.jc_replica.proofs.replica.Replica.runs.Goals as goal

pub returns-then-branch-clause-ok : goal.returns-then-branch-clause-ok
returns-then-branch-clause-ok g c = can_bind c.args.self.now _ _ _ _ c.in_ok-bound_next.ensures.ok

pub returns-clause-ok : goal.returns-clause-ok
returns-clause-ok g c =
    let op = c.in_ok-op.op in
    let tree = ap (λ (p : ReplicaHistory). p.history.now.tree) c.self.view_is in
    can_make_where c.args.self.now op _ _ c.in_ok-op.ensures.ok c.fits.result
    (λ e. subst (λ (x : Context). EachOp op.cursor op.mutation (λ o. Refused (Operate x o) (because F.NotInList))) tree (c.fits.ensures.refused e))
    (λ e. subst (λ (x : Context). EachOp op.cursor op.mutation (λ o. IsFree (Operate x o))) tree (c.fits.ensures.not_refused e (ready_now c.self.invariant).chained))
