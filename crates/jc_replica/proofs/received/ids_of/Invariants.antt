use Rattle.std.proofs.Common.{◌≡◌, take}
use Rattle.jc_replica.specs.Operations.{identifiers}
use Rattle.jc_replica.proofs.received.ids_of.Given as goal

abbrev pub invariant-loop-op : goal.invariant-loop-op
invariant-loop-op l = l.ids.items ≡ identifiers (take l.op-index l.ops)
