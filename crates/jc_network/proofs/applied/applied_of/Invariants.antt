use Rattle.std.proofs.Common.{◌≡◌, ◌+◌, ◌++◌, length, filter}
use Rattle.jc_rules.specs.Ids.{has_id}
use Rattle.jc_rules.specs.Table.{both}
use Rattle.jc_replica.specs.Operations.{AreInOrder}
use Rattle.jc_network.specs.Applied.{applied_ops}
use Rattle.jc_network.proofs.applied.applied_of.Given as goal

abbrev pub invariant-loop-op : goal.invariant-loop-op
invariant-loop-op g l = record {
  found : applied_ops l.replica.history.now ≡ l.applied.items ++ filter (λ o. has_id o.id l.replica.history.now.ops) (both l.own l.others);
  own : AreInOrder l.own;
  others : AreInOrder l.others;
}

abbrev pub decreases-loop-op : goal.decreases-loop-op
decreases-loop-op g l = length l.own + length l.others
