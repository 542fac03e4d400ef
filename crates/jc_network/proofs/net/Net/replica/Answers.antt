use Rattle.std.proofs.Common.{◌≡◌, Some, length, reverse, slice_get, subst}
use Rattle.std.specs.Slice.{IsItemAt}
use Rattle.jc_network.specs.NetworkHistory.{NetworkHistory}
use Rattle.jc_network.specs.Steps.{HasReplica}
use Rattle.jc_network.proofs.InvariantLemmas.{has_replica, if_lent}
use Rattle.jc_network.proofs.net.Net.replica.Goals as goal

pub returns-clause-some : goal.returns-clause-some
returns-clause-some c =
    let items = c.self.inside.replicas.items in
    let lookup = subst (λ ps. IsItemAt ps c.from.result c.get.result) c.deref.ensures.value c.get.ensures.lookup in
    if_lent items c.from.result c.get.result (λ a. HasReplica c.args.self.now.history.now.states c.args.p a) lookup (λ a e.
    subst (λ (v : NetworkHistory). HasReplica v.history.now.states c.args.p a) c.self.view_is
    (has_replica c.self.inside.version (length c.self.inside.names.items) (reverse c.self.inside.whose.items) items c.self.invariant c.args.p a (subst (λ n. slice_get items n ≡ Some a) c.from.ensures e)))
