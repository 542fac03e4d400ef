use Rattle.std.proofs.Common.{◌≡◌, ◌+◌, ◌++◌, length, filter}
use Rattle.jc_rules.specs.Ids.{has_id}
use Rattle.jc_rules.specs.Table.{both}
use Rattle.jc_replica.specs.Operations.{identifiers, AreInOrder}
use Rattle.jc_network.specs.Applied.{applied_ops}
use Rattle.jc_network.proofs.applied.applied_ids_of.Given as goal

abbrev pub invariant-loop-op : goal.invariant-loop-op
invariant-loop-op g l = record {
  found : identifiers (applied_ops l.replica.history.now) ≡ l.ids.items ++ identifiers (filter (λ o. has_id o.id l.replica.history.now.ops) (both l.made l.received));
  made : AreInOrder l.made;
  received : AreInOrder l.received;
}

abbrev pub decreases-loop-op : goal.decreases-loop-op
decreases-loop-op g l = length l.made + length l.received
