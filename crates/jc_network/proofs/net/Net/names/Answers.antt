use Rattle.std.proofs.Common.{◌≤◌, length, reverse, subst}
use Rattle.jc_network.specs.NetworkHistory.{NetworkHistory}
use Rattle.jc_network.proofs.InvariantLemmas.{few_names}
use Rattle.jc_network.proofs.net.Net.names.Goals as goal

pub returns-clause-few : goal.returns-clause-few
returns-clause-few c =
    subst (λ (v : NetworkHistory). length v.names ≤ 64) c.self.view_is (few_names c.self.inside.version (length c.self.inside.names.items) (reverse c.self.inside.whose.items) c.self.inside.replicas.items c.self.invariant).1
