use Rattle.std.proofs.Common.{length, Some, ap, subst, arith}
use Rattle.std.proofs.lemmas.Result.{err_from_is_err_and}
use Rattle.jc_scenario.specs.Views.{scenario_view}
use Rattle.jc_requests.specs.Views.{position_view}
use Rattle.jc_looks.specs.LookFaults.{RefusesBy}
use Rattle.jc_serve.specs.AnswerOf.{IsNowhereAnswer}
use Rattle.jc_serve.proofs.AnswersLemmas.{looks_nowhere, looks_shown, count_in, count_within}
use Rattle.jc_serve.proofs.FindsLemmas.{answers_weaker}
use Rattle.jc_serve.proofs.served.Served.look_at.Goals as goal

pub returns-in_err-count : goal.returns-in_err-count
returns-in_err-count c =
    let q = err_from_is_err_and c.from_residual.result c.from_residual.ensures.1 in
    rw (q.1, q.2) (looks_nowhere c.args.self.now (position_view c.args.at) c.args.look.now _ (subst (λ es. RefusesBy (IsNowhereAnswer (scenario_view c.args.self.now.scenario) es (position_view c.args.at)) c.in_err-count.field-0.0) c.schedule.ensures c.in_err-count.ensures))

pub look_aside-requires-clause-there : goal.look_aside-requires-clause-there
look_aside-requires-clause-there c =
    let x = c.args.self.now in
    let le = count_within (scenario_view x.scenario) c.schedule.result.now (position_view c.args.at) c.in_ok-count.count c.in_ok-count.ensures in
    let same = ap length c.schedule.ensures in
    omega (arith, le, same)

pub returns-then-count-given : goal.returns-then-count-given
returns-then-count-given c =
    let x = c.args.self.now in
    let p = position_view c.args.at in
    answers_weaker c.look_given.result (λ answer h s start v.
    let (shown, same, w) = h s start v in
    (looks_shown s x.here.schedule _ c.in_ok-count.count (Some p) c.args.look.now answer (count_in s start x v p c.in_ok-count.count c.schedule.result.now c.schedule.ensures c.in_ok-count.ensures) shown, same, w)) c.look_given.ensures
