use Rattle.std.proofs.Common.{◌≡◌, ◌+◌, ◌≤◌, length}
use Rattle.jc_rules.specs.Table.{both}
use Rattle.jc_replica.proofs.received.bring_in.Given as goal

abbrev pub invariant-loop-op : goal.invariant-loop-op
invariant-loop-op l = record {
  united : l.ops.items ≡ both l.initial.ops.items l.yielded;
  room : length l.fn.fresh.items ≤ l.ops.room + length l.yielded;
}
