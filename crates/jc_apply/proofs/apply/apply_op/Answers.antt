use Rattle.std.proofs.Common.{refl, rules}
use Rattle.jc_rules.specs.Derivation.{Operate, ToContext}
use Rattle.jc_rules.specs.Derives.{Derives}
use Rattle.jc_vectors.specs.OperationIds.{with_deps}
use Rattle.jc_vectors.proofs.LawsLemmas.{operate_stands}
use Rattle.jc_apply.proofs.apply.apply_op.Goals as goal

pub returns-then-not-fits-clause-stands_refused : goal.returns-then-not-fits-clause-stands_refused
returns-then-not-fits-clause-stands_refused g c = λ e deps. c.fits.ensures.refused (search rules) (with_deps deps c.args.op.now) refl refl

pub returns-clause-stands : goal.returns-clause-stands
returns-clause-stands g c =
    let before = (g.S.TreeStore.tree c.args.store.now).now in
    let after = (g.S.TreeStore.tree c.operate.new.store).now in
    let derives : Derives (Operate before c.args.op.now) (ToContext after) c.args.trace.now c.operate.new.trace = search rules in
    λ set deps own represents has known. operate_stands set deps before after c.args.op.now own c.args.trace.now c.operate.new.trace represents has known derives
