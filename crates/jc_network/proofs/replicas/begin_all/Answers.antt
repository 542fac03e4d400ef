use Rattle.std.proofs.Common.{◌≡◌, suc, ◌+◌, ◌++◌, map, take, drop, set, get_or, sym, subst, arith}
use Rattle.std.proofs.lemmas.Grind.{common_steps}
use Rattle.jc_network.specs.NetworkHistory.{begin_now}
use Rattle.jc_network.proofs.GivenHistoryLemmas.{one_more_begins}
use Rattle.jc_network.proofs.replicas.begin_all.Goals as goal

pub loop-p-preserved : goal.loop-p-preserved
loop-p-preserved c =
    let ps = c.args.replicas.now in
    let p = c.loop-p.p in
    let r = c.begin.new.self in
    let d = c.index-replicas-p.result in
    let is = subst (λ qs. r ≡ begin_now (get_or qs p d)) c.loop-p.invariant c.begin.ensures in
    let next : suc p ≡ p + 1 = omega arith in
    subst (λ n. set c.loop-p.replicas p r ≡ map begin_now (take n ps) ++ drop n ps) next
    (subst (λ qs. set qs p r ≡ map begin_now (take (suc p) ps) ++ drop (suc p) ps) (sym c.loop-p.invariant) (one_more_begins ps p r d c.loop-p-test.true is))

pub returns : goal.returns
returns c = grind (arith, common_steps)
