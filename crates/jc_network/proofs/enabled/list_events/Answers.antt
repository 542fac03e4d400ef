use Rattle.std.proofs.Common.{length, sym}
use Rattle.std.proofs.lemmas.List.{length-map}
use Rattle.jc_replica.specs.ReplicaHistory.{ReplicaHistory}
use Rattle.jc_network.specs.NetworkHistory.{kept_of, of_version}
use Rattle.jc_network.proofs.EnabledRefinesLemmas.{lists_events}
use Rattle.jc_network.proofs.enabled.list_events.Goals as goal

pub returns : goal.returns
returns g c =
    lists_events c.list-3.result c.args.replica.now (of_version c.args.version (kept_of c.args.replicas.now)) (length c.args.replicas.now) c.number-number.result c.args.events.now.items c.list.new.events.items c.list-2.new.events.items c.list_receivings.new.events.items c.list_takings.new.events.items c.list_applyings.new.events.items c.list-3.new.events.items
    (sym (length-map c.args.replicas.now (λ (p : ReplicaHistory). p.history.now))) c.number-number.ensures c.in_ok-list.ensures c.in_ok-list-2.ensures c.in_ok-list_receivings.ensures c.in_ok-list_takings.ensures c.in_ok-list_applyings.ensures c.list-3.ensures
