use Rattle.std.proofs.Common.{◌≡◌, ◌<◌, ◌-◌, suc, Ok, Some, sym, ap, subst, ◌∙◌, arith}
use Rattle.std.proofs.lemmas.Result.{IfOk-weaker}
use Rattle.jc_scenario.specs.Views.{scenario_view}
use Rattle.jc_listings.specs.Journals.{AnswersEvent, IsLineBehind, first}
use Rattle.jc_listings.specs.Positions.{IsAt}
use Rattle.jc_serve.proofs.StopLemmas.{made_there, event_told}
use Rattle.jc_serve.proofs.stuck.GivenStop.event.Goals as goal

pub returns-then-count-eq0 : goal.returns-then-count-eq0
returns-then-count-eq0 c =
    let none : c.args.count ≡ 0 = omega (arith, c.if-count-eq0.true) in
    IfOk-weaker c.flag.result _ _ (λ answer h s stop v p is. subst (λ t. AnswersEvent c.args.details s s.schedule 0 (Some p) t) (sym h) (first (is ∙ ap Ok none))) c.flag.ensures

pub line_behind-requires-clause-made : goal.line_behind-requires-clause-made
line_behind-requires-clause-made c =
    let x = c.args.self.now in
    let some : 0 < c.args.count = omega (arith, c.if-count-eq0.false) in
    let r = made_there c.requires.stop.0 c.requires.stop.1 x c.requires.stop.2 c.args.count some c.requires.made in
    (r.0, subst (λ es. IsAt (scenario_view x.scenario) es (suc (c.args.count - 1)) r.0) (sym c.as_slice-schedule.ensures.value) r.1)

pub returns : goal.returns
returns c =
    let x = c.args.self.now in
    let some : 0 < c.args.count = omega (arith, c.if-count-eq0.false) in
    IfOk-weaker c.line_behind.result _ _ (λ answer h s stop v p is.
    event_told s stop x v c.args.details c.args.count answer.items some
    (subst (λ es. IsLineBehind c.args.details (scenario_view x.scenario) es (c.args.count - 1) answer.items) c.as_slice-schedule.ensures.value h) p is) c.line_behind.ensures
