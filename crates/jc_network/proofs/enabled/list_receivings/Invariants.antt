use Rattle.jc_network.specs.Enabled.{receivings, Lists}
use Rattle.jc_network.proofs.enabled.list_receivings.Given as goal

abbrev pub invariant-loop-sender : goal.invariant-loop-sender
invariant-loop-sender g l = Lists l.replica (receivings l.replica.number l.sender) l.initial.events.items l.events.items
