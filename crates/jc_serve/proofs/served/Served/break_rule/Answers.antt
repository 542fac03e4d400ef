use Rattle.std.proofs.lemmas.Result.{IfOk-weaker}
use Rattle.jc_serve.proofs.BreakpointsLemmas.{breaks_rule, no_rule}
use Rattle.jc_serve.proofs.served.Served.break_rule.Goals as goal

pub returns-in-Some : goal.returns-in-Some
returns-in-Some c =
    let w = c.in-Some in
    IfOk-weaker c.set.result _ _ (λ answer h text. breaks_rule text c.args.self.now c.set.new.self w.rule c.args.name.now answer.items w.ensures.some.0 w.ensures.some.1 h) c.set.ensures

pub returns-in-None : goal.returns-in-None
returns-in-None c =
    IfOk-weaker c.refused.result _ _ (λ answer h text. no_rule text c.args.self.now c.args.name.now answer.items c.in-None.ensures.none h) c.refused.ensures
