use Rattle.std.proofs.Common.{refl, rules}
use Rattle.jc_network.proofs.StepsLemmas.{act_refused, missing_stops, version_stops}
use Rattle.jc_network.proofs.stepping.make.Goals as goal

pub returns-then-not-are_there : goal.returns-then-not-are_there
returns-then-not-are_there c =
    missing_stops c.args.version c.args.event.now c.args.replicas.now c.missing.result c.missing.ensures c.if-not-are_there.ensures

pub returns-then-not-allows : goal.returns-then-not-allows
returns-then-not-allows c =
    version_stops c.args.version c.args.event.now c.args.replicas.now c.wrong_version.result c.wrong_version.ensures (search rules)
    (λ a. let t = c.if-not-allows.ensures.1 a in cc)

pub returns-in-Err : goal.returns-in-Err
returns-in-Err c =
    act_refused c.args.version c.args.event.now c.args.replicas.now c.act.new.replicas c.in-Err.fault c.step_fault.result (c.if-not-allows.ensures.0 refl) c.requires.numbered c.step_fault.ensures c.in-Err.ensures
