use Rattle.std.proofs.Common.{◌≡◌, Some, length, reverse, slice_get, subst}
use Rattle.std.specs.Slice.{IsItemAt}
use Rattle.jc_network.specs.Applied.{IsApplied}
use Rattle.jc_network.specs.NetworkHistory.{NetworkHistory}
use Rattle.jc_network.proofs.InvariantLemmas.{applies, some_lent}
use Rattle.jc_network.proofs.net.Net.applied.Goals as goal

pub returns-in_ok-applied_of-in-Some-clause-applied : goal.returns-in_ok-applied_of-in-Some-clause-applied
returns-in_ok-applied_of-in-Some-clause-applied c =
    let items = c.self.inside.replicas.items in
    let lookup = subst (λ ps. IsItemAt ps c.from.result c.get.result) c.deref.ensures.value c.get.ensures.lookup in
    let there = some_lent items c.from.result c.get.result c.in-Some.replica lookup c.in-Some.is in
    subst (λ (v : NetworkHistory). IsApplied v.history.now.states c.args.p c.in_ok-applied_of-in-Some.field-0.items) c.self.view_is
    (applies c.self.inside.version (length c.self.inside.names.items) (reverse c.self.inside.whose.items) items c.self.invariant c.args.p c.in-Some.replica.now c.in_ok-applied_of-in-Some.field-0.items (subst (λ n. slice_get items n ≡ Some c.in-Some.replica.now) c.from.ensures there) c.in_ok-applied_of-in-Some.ensures)
