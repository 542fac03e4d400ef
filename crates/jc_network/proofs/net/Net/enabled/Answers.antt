use Rattle.std.proofs.Common.{length, reverse, ap, subst, arith}
use Rattle.std.proofs.lemmas.Result.{IfOk-weaker}
use Rattle.jc_network.specs.NetworkHistory.{NetworkHistory, network_of}
use Rattle.jc_network.specs.Enabled.{AreEnabled, AreEnabledAsKnown, candidates}
use Rattle.jc_network.proofs.EnabledRefinesLemmas.{enabled_stands}
use Rattle.jc_network.proofs.InvariantLemmas.{few_names, now_in_run, now_reached}
use Rattle.jc_network.proofs.net.Net.enabled.Goals as goal

pub enabled_in-requires-clause-few : goal.enabled_in-requires-clause-few
enabled_in-requires-clause-few c =
    let items = c.self.inside.replicas.items in
    let few = (few_names c.self.inside.version (length c.self.inside.names.items) (reverse c.self.inside.whose.items) items c.self.invariant).1 in
    let each = c.self.invariant.each in
    let same = ap length c.deref.ensures.value in
    omega (arith, few, each, same)

pub returns : goal.returns
returns c =
    let items = c.self.inside.replicas.items in
    let run = now_in_run c.self.inside.version (length c.self.inside.names.items) (reverse c.self.inside.whose.items) items c.self.invariant in
    IfOk-weaker c.enabled_in.result _ _ (λ events told.
    subst (λ (v : NetworkHistory). AreEnabled v.history.now (candidates v.history.now) events.items) c.self.view_is
    (enabled_stands c.self.invariant.scripts c.self.inside.version (network_of items) (now_reached c.self.inside.version (length c.self.inside.names.items) (reverse c.self.inside.whose.items) items c.self.invariant) run.set items run.seen events.items (subst (λ ps. AreEnabledAsKnown c.self.inside.version ps events.items) c.deref.ensures.value told)))
    c.enabled_in.ensures
