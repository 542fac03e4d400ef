use Rattle.std.proofs.Common.{◌≡◌, Some, length, refl, reverse, slice_get, subst, sym}
use Rattle.std.specs.Slice.{IsItemAt}
use Rattle.jc_network.specs.Applied.{applied_ops, AreAppliedIds}
use Rattle.jc_network.specs.NetworkHistory.{NetworkHistory}
use Rattle.jc_network.proofs.AppliedIdsLemmas.{are_applied_ids}
use Rattle.jc_network.proofs.InvariantLemmas.{applies, now_reached, some_lent}
use Rattle.jc_network.proofs.net.Net.applied_ids.Goals as goal

pub returns-in_ok-applied_ids_of-in-Some-clause-applied : goal.returns-in_ok-applied_ids_of-in-Some-clause-applied
returns-in_ok-applied_ids_of-in-Some-clause-applied c =
    let items = c.self.inside.replicas.items in
    let lookup = subst (λ ps. IsItemAt ps c.from.result c.get.result) c.deref.ensures.value c.get.ensures.lookup in
    let there = some_lent items c.from.result c.get.result c.in-Some.replica lookup c.in-Some.is in
    let count = length c.self.inside.names.items in
    let whose = reverse c.self.inside.whose.items in
    let reached = now_reached c.self.inside.version count whose items c.self.invariant in
    let stands = applies c.self.inside.version count whose items c.self.invariant c.args.p c.in-Some.replica.now _ (subst (λ n. slice_get items n ≡ Some c.in-Some.replica.now) c.from.ensures there) refl in
    subst (λ (v : NetworkHistory). AreAppliedIds v.history.now.states c.args.p c.in_ok-applied_ids_of-in-Some.field-0.items) c.self.view_is
    (subst (AreAppliedIds _ c.args.p) (sym c.in_ok-applied_ids_of-in-Some.ensures) (are_applied_ids _ c.args.p (applied_ops c.in-Some.replica.now.history.now) (c.self.invariant.scripts, reached) stands))
