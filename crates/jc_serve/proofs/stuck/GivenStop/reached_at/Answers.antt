use Rattle.std.proofs.Common.{◌≡◌, Ok, subst}
use Rattle.std.proofs.lemmas.Result.{err_from_is_err_and}
use Rattle.jc_scenario.specs.Views.{scenario_view}
use Rattle.jc_requests.specs.Views.{position_view}
use Rattle.jc_looks.specs.LookFaults.{RefusesBy}
use Rattle.jc_listings.specs.Positions.{count_of}
use Rattle.jc_serve.specs.AnswerOf.{IsNowhereAnswer}
use Rattle.jc_serve.proofs.StopLemmas.{unreached_nowhere, unreached_behind}
use Rattle.jc_serve.proofs.stuck.GivenStop.reached_at.Goals as goal

pub returns-in_err-count : goal.returns-in_err-count
returns-in_err-count c s stop v =
    let q = err_from_is_err_and c.from_residual.result c.from_residual.ensures.1 in
    let x = c.args.self.now in
    rw (q.1, q.2) (unreached_nowhere s stop x v (position_view c.args.at) _ (subst (λ es. RefusesBy (IsNowhereAnswer (scenario_view x.scenario) es (position_view c.args.at)) c.in_err-count.field-0.0) c.as_slice.ensures.value c.in_err-count.ensures))

pub returns-else-count-self : goal.returns-else-count-self
returns-else-count-self c s stop v =
    let x = c.args.self.now in
    unreached_behind s stop x v (position_view c.args.at) c.in_ok-count.count c.refuse.result
    (subst (λ es. count_of (scenario_view x.scenario) es (position_view c.args.at) ≡ Ok c.in_ok-count.count) c.as_slice.ensures.value c.in_ok-count.ensures)
    c.if-count-self.false c.refuse.ensures
