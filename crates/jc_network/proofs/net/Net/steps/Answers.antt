use Rattle.std.proofs.Common.{length, reverse, ap, subst, arith}
use Rattle.jc_network.specs.NetworkHistory.{NetworkHistory}
use Rattle.jc_network.specs.Invariant.{IsFromStart, HasBegun}
use Rattle.jc_network.proofs.InvariantLemmas.{as_many, now_reached, has_begun}
use Rattle.jc_network.proofs.net.Net.steps.Goals as goal

pub returns-clause-steps : goal.returns-clause-steps
returns-clause-steps c =
    let n = c.self.inside.whose.ok.0 in
    let many = as_many c.self.inside.version c.self.inside.whose.items c.self.inside.replicas.items in
    let seen = ap (λ (v : NetworkHistory). length v.history.earlier) c.self.view_is in
    let l = c.len.ensures in
    omega (arith, n, many, seen, l)

pub returns-clause-reached : goal.returns-clause-reached
returns-clause-reached c =
    let reached = now_reached c.self.inside.version (length c.self.inside.names.items) (reverse c.self.inside.whose.items) c.self.inside.replicas.items c.self.invariant in
    subst (λ (v : NetworkHistory). IsFromStart v.history.now.states) c.self.view_is (c.self.invariant.scripts, reached)

pub returns-clause-begun : goal.returns-clause-begun
returns-clause-begun c =
    subst HasBegun c.self.view_is (has_begun c.self.inside.version c.self.inside.names.items (reverse c.self.inside.whose.items) c.self.inside.replicas.items c.self.invariant)
