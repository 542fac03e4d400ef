use Rattle.std.proofs.Common.{◌≡◌, ◌+◌, ◌≤◌, length, filter}
use Rattle.jc_rules.specs.Ids.{has_id}
use Rattle.jc_rules.specs.Table.{both}
use Rattle.jc_replica.specs.Operations.{AreInOrder}
use Rattle.jc_network.proofs.applied.next_in.Given as goal

abbrev pub invariant-loop-op : goal.invariant-loop-op
invariant-loop-op l = record {
  none : filter (λ o. has_id o.id l.ops) (both l.fn.made l.fn.received) ≡ filter (λ o. has_id o.id l.ops) (both l.own l.others);
  own : AreInOrder l.own;
  others : AreInOrder l.others;
  less : length l.own + length l.others ≤ length l.fn.made + length l.fn.received;
}

abbrev pub decreases-loop-op : goal.decreases-loop-op
decreases-loop-op l = length l.own + length l.others
