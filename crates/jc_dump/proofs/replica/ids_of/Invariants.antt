use Rattle.std.proofs.Common.{◌≡◌, take}
use Rattle.jc_dump.specs.Dump.{ids_of_dumped}
use Rattle.jc_dump.proofs.replica.ids_of.Given as goal

abbrev pub invariant-loop-op : goal.invariant-loop-op
invariant-loop-op l = l.ids.items ≡ ids_of_dumped (take l.op-index l.ops)
