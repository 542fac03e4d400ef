use Rattle.jc_network.specs.NetworkHistory.{kept_of, of_version}
use Rattle.jc_network.proofs.EnabledRefinesLemmas.{HaveTold}
use Rattle.jc_network.proofs.enabled.enabled_in.Given as goal

abbrev pub invariant-loop-replica : goal.invariant-loop-replica
invariant-loop-replica g l = HaveTold l.replicas (of_version l.version (kept_of l.replicas)) l.replica-index l.events.items
