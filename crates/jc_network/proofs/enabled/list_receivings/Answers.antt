use Rattle.std.proofs.Common.{refl}
use Rattle.jc_network.proofs.EnabledRefinesLemmas.{lists_none, lists_receiving}
use Rattle.jc_network.proofs.enabled.list_receivings.Goals as goal

pub loop-sender-init : goal.loop-sender-init
loop-sender-init g c = lists_none c.args.replica.now c.args.events.now.items c.args.events.now.items refl

pub loop-sender-preserved : goal.loop-sender-preserved
loop-sender-preserved g c =
    lists_receiving c.args.replica.now c.loop-sender.sender c.number.result c.args.events.now.items c.loop-sender.events.items c.list.new.events.items c.number.ensures c.loop-sender.invariant c.in_ok-list.ensures
