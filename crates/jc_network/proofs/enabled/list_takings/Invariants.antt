use Rattle.std.proofs.Common.{◌≡◌, take}
use Rattle.jc_network.specs.NetworkHistory.{kept_of}
use Rattle.jc_network.specs.Enabled.{takings_from, Lists}
use Rattle.jc_network.proofs.enabled.list_takings.Given as goal

abbrev pub invariant-loop-sender : goal.invariant-loop-sender
invariant-loop-sender g l =
    (l.number ≡ l.sender-index)
    × Lists l.replica (takings_from l.replica.number 0 (kept_of (take l.sender-index l.replicas))) l.initial.events.items l.events.items
