use Rattle.std.proofs.Common.{◌+◌, ◌≤◌, length, IfOk, subst, arith}
use Rattle.jc_scenario.specs.Views.{scenario_view}
use Rattle.jc_requests.specs.Views.{position_view}
use Rattle.jc_serve.proofs.AnswersLemmas.{found_within}
use Rattle.jc_serve.proofs.served.Served.count_at.Goals as goal

pub returns-in-Some-clause-there : goal.returns-in-Some-clause-there
returns-in-Some-clause-there c =
    let x = c.args.self.now in
    subst (λ es. IfOk c.counted.result (λ count. count ≤ length x.scenario.given.items + length es)) c.schedule.ensures
    (found_within (scenario_view x.scenario) c.schedule.result.now (position_view c.in-Some.at) c.counted.result c.counted.ensures)

pub returns-in-None-clause-there : goal.returns-in-None-clause-there
returns-in-None-clause-there c =
    let within = c.position.ensures.trail.within in
    let at = c.position.ensures.position in
    omega (arith, within, at)
