use Rattle.std.proofs.Common.{◌≡◌, List, ◌∷◌, filter, ap, subst}
use Rattle.jc_rules.specs.declared.id.Id.{Id}
use Rattle.jc_rules.specs.declared.operation.Op.{Op}
use Rattle.jc_rules.specs.Ids.{has_id}
use Rattle.jc_rules.specs.Table.{both}
use Rattle.jc_replica.specs.Operations.{identifiers}
use Rattle.jc_network.proofs.AppliedLemmas.{found_on}
use Rattle.jc_network.proofs.applied.applied_ids_of.Goals as goal

pub loop-op-preserved : goal.loop-op-preserved
loop-op-preserved g c =
    let next = subst (λ (s : List Id). ◌≡◌ {A = List Op} (filter (λ o. has_id o.id s) (both c.loop-op.made.now c.loop-op.received.now)) (c.in-Some.op.now ∷ filter (λ o. has_id o.id s) (both c.in-Some.made_left.now c.in-Some.received_left.now))) c.ops.ensures c.in-Some.ensures.next in
    record {
      found = found_on _ _ _ _ _ c.in-Some.op.now.id c.loop-op.invariant.found (ap identifiers next) c.in_ok-push.ensures.items;
      made = c.in-Some.ensures.order.0;
      received = c.in-Some.ensures.order.1;
    }
