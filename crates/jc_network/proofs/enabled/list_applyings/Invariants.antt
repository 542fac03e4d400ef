use Rattle.std.proofs.Common.{take}
use Rattle.jc_network.specs.Enabled.{applyings, Lists}
use Rattle.jc_network.proofs.enabled.list_applyings.Given as goal

abbrev pub invariant-loop-op : goal.invariant-loop-op
invariant-loop-op g l = Lists l.replica (applyings l.replica.number (take l.op-index l.op-items)) l.initial.events.items l.events.items
