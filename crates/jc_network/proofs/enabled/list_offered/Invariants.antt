use Rattle.std.proofs.Common.{take}
use Rattle.jc_network.specs.Enabled.{takings_of, Lists}
use Rattle.jc_network.proofs.enabled.list_offered.Given as goal

abbrev pub invariant-loop-op : goal.invariant-loop-op
invariant-loop-op g l = Lists l.replica (takings_of l.replica.number l.sender (take l.op-index l.offered)) l.initial.events.items l.events.items
