use Rattle.jc_network.specs.NetworkHistory.{kept_of, of_version}
use Rattle.jc_network.proofs.EnabledRefinesLemmas.{told_none, told_more}
use Rattle.jc_network.proofs.enabled.enabled_in.Goals as goal

pub loop-replica-init : goal.loop-replica-init
loop-replica-init g c = told_none c.args.replicas.now (of_version c.args.version (kept_of c.args.replicas.now)) c.new-events.result.items c.new-events.ensures.items

pub loop-replica-preserved : goal.loop-replica-preserved
loop-replica-preserved g c =
    told_more c.args.replicas.now (of_version c.args.version (kept_of c.args.replicas.now)) c.loop-replica.replica-index c.replica-item.result c.loop-replica.events.items c.list_events.new.events.items c.requires.numbered c.loop-replica-test.true c.replica-item.is c.loop-replica.invariant c.in_ok-list_events.ensures
