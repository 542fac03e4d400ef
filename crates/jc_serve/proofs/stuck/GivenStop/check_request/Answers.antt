use Rattle.std.proofs.Common.{sym, subst}
use Rattle.jc_looks.specs.LookFaults.{Finds}
use Rattle.jc_scenario.specs.Views.{scenario_view}
use Rattle.jc_session.specs.Requests as Q
use Rattle.jc_session.specs.Views.{request_view}
use Rattle.jc_requests.specs.Asked as K
use Rattle.jc_serve.specs.Answers.{IsGoodRequest, IsBadRequest, strange_break, strange_state}
use Rattle.jc_serve.proofs.FindsLemmas.{finds_weaker}
use Rattle.jc_serve.proofs.StopAnswersLemmas.{strange_bad}
use Rattle.jc_serve.proofs.stuck.GivenStop.check_request.Goals as goal

pub returns-in-BreakReplica : goal.returns-in-BreakReplica
returns-in-BreakReplica c =
    let s = scenario_view c.args.self.now.scenario in
    let name = c.in-BreakReplica.name.now in
    subst (λ r. Finds (λ x. IsGoodRequest s (K.of_session (request_view r))) (IsBadRequest s (K.of_session (request_view r))) c.check_name.result) (sym c.in-BreakReplica.is)
    (finds_weaker c.check_name.result (λ x own. own) (strange_bad s name (K.of_session (Q.break_replica name)) (λ strange. strange_break strange)) c.check_name.ensures)

pub returns-in-StateOf : goal.returns-in-StateOf
returns-in-StateOf c =
    let s = scenario_view c.args.self.now.scenario in
    let name = c.in-StateOf.name.now in
    subst (λ r. Finds (λ x. IsGoodRequest s (K.of_session (request_view r))) (IsBadRequest s (K.of_session (request_view r))) c.check_name-in-StateOf.result) (sym c.in-StateOf.is)
    (finds_weaker c.check_name-in-StateOf.result (λ x own. own) (strange_bad s name (K.of_session (Q.state_of name)) (λ strange. strange_state strange)) c.check_name-in-StateOf.ensures)
