use Rattle.std.proofs.Common.{◌≡◌, ◌+◌, List, take, refl, sym, ap, subst, arith}
use Rattle.std.proofs.lemmas.List.{take_all}
use Rattle.jc_rules.specs.declared.version.Version.{Version}
use Rattle.jc_replica.specs.ReplicaHistory.{ReplicaHistory}
use Rattle.jc_network.specs.NetworkHistory.{kept_of}
use Rattle.jc_network.specs.Enabled.{takings, takings_of, takings_from, Lists}
use Rattle.jc_network.proofs.EnabledRefinesLemmas.{lists_none, lists_takings}
use Rattle.jc_network.proofs.enabled.list_takings.Goals as goal

pub returns-in-One : goal.returns-in-One
returns-in-One g c =
    let replica = c.args.replica.now in
    subst (λ (v : Version). Lists replica (takings v replica.number (kept_of c.args.replicas.now)) c.args.events.now.items c.args.events.now.items) (sym c.in-One.is)
    (lists_none replica c.args.events.now.items c.args.events.now.items refl)

pub loop-sender-init : goal.loop-sender-init
loop-sender-init g c = (refl, lists_none c.args.replica.now c.args.events.now.items c.args.events.now.items refl)

pub loop-sender-preserved : goal.loop-sender-preserved
loop-sender-preserved g c =
    let replica = c.args.replica.now in (
      ap (λ n. n + 1) c.loop-sender.invariant.0,
      lists_takings replica c.args.replicas.now c.loop-sender.sender-index c.sender-item.result c.sent.result.now c.args.events.now.items c.loop-sender.events.items c.list_offered.new.events.items c.loop-sender-test.true c.sender-item.is c.sent.ensures.sent c.loop-sender.invariant.1
          (subst (λ n. Lists replica (takings_of replica.number n c.sent.result.now) c.loop-sender.events.items c.list_offered.new.events.items) c.loop-sender.invariant.0 c.in_ok-list_offered.ensures),
    )

pub returns : goal.returns
returns g c =
    let replica = c.args.replica.now in
    let all : take c.loop-sender.sender-index c.args.replicas.now ≡ c.args.replicas.now = take_all c.loop-sender.sender-index c.args.replicas.now (omega (arith, c.loop-sender-test.false)) in
    let each = subst (λ (ps : List ReplicaHistory). Lists replica (takings_from replica.number 0 (kept_of ps)) c.args.events.now.items c.loop-sender.events.items) all c.loop-sender.invariant.1 in
    subst (λ (v : Version). Lists replica (takings v replica.number (kept_of c.args.replicas.now)) c.args.events.now.items c.loop-sender.events.items) (sym c.in-Two.is) each
