use Rattle.std.proofs.Common.{◌≡◌, take, filter}
use Rattle.jc_replica.specs.Received.{is_new}
use Rattle.jc_replica.proofs.received.new_ones.Given as goal

abbrev pub invariant-loop-op : goal.invariant-loop-op
invariant-loop-op l = l.fresh.items ≡ filter (is_new l.ops) (take l.op-index l.offered)
