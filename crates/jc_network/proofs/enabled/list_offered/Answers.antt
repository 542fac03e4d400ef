use Rattle.std.proofs.Common.{refl}
use Rattle.jc_network.proofs.EnabledRefinesLemmas.{lists_none, lists_taking}
use Rattle.jc_network.proofs.enabled.list_offered.Goals as goal

pub loop-op-init : goal.loop-op-init
loop-op-init g c = lists_none c.args.replica.now c.args.events.now.items c.args.events.now.items refl

pub loop-op-preserved : goal.loop-op-preserved
loop-op-preserved g c =
    lists_taking c.args.replica.now c.args.offered.now c.loop-op.op-index c.op-item.result c.number.result c.args.sender c.args.events.now.items c.loop-op.events.items c.list.new.events.items c.loop-op-test.true c.op-item.is c.number.ensures c.loop-op.invariant c.in_ok-list.ensures
