use Rattle.std.proofs.Common.{ap, sym, subst}
use Rattle.jc_rules.specs.declared.operation.Event.{Event}
use Rattle.jc_replica.specs.Can.{CanOccur}
use Rattle.jc_replica.specs.ReplicaHistory.{ReplicaHistory}
use Rattle.jc_replica.proofs.CanLemmas.{can_end_where, can_read, is_reading}
use Rattle.jc_replica.proofs.replica.Replica.tells.Goals as goal

pub returns-in_ok-at_yield-in-Done-clause-ok : goal.returns-in_ok-at_yield-in-Done-clause-ok
returns-in_ok-at_yield-in-Done-clause-ok g c =
    let yields = c.in_ok-at_yield-in-Done.ensures.ok in
    subst (λ (event : Event). CanOccur event c.args.self.now c.self.inside.acted) (sym c.in-Done.is)
    (can_end_where c.args.self.now _ yields.0 yields.1 c.self.inside.acted (ap (λ (p : ReplicaHistory). p.history.now.acted) (sym c.self.view_is)))

pub returns-in_ok-at_yield-in-Send-clause-ok : goal.returns-in_ok-at_yield-in-Send-clause-ok
returns-in_ok-at_yield-in-Send-clause-ok g c =
    let yields = c.in_ok-at_yield-in-Send.ensures.ok in
    can_read c.args.self.now c.args.event.now yields.0 yields.1 (is_reading c.args.event.now c.in-Send.is)
