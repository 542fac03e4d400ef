use Rattle.std.proofs.lemmas.Result.{err_from_is_err_and}
use Rattle.jc_scenario.specs.Views.{scenario_view}
use Rattle.jc_session.specs.Requests as Q
use Rattle.jc_requests.specs.Asked as K
use Rattle.jc_serve.specs.Answers.{strange_first, strange_second}
use Rattle.jc_serve.proofs.FindsLemmas.{refuses_weaker, finds_weaker}
use Rattle.jc_serve.proofs.StopAnswersLemmas.{strange_bad}
use Rattle.jc_serve.proofs.stuck.GivenStop.check_names.Goals as goal

pub returns-in_err-check_name : goal.returns-in_err-check_name
returns-in_err-check_name c =
    let q = err_from_is_err_and c.from_residual.result c.from_residual.ensures.1 in
    rw (q.1, q.2) (refuses_weaker _ (strange_bad (scenario_view c.args.self.now.scenario) c.args.name.now (K.of_session (Q.compare c.args.name.now c.args.other.now)) (λ strange. strange_first strange)) c.in_err-check_name.ensures)

pub returns : goal.returns
returns c =
    finds_weaker c.check_name-2.result (λ x own. (c.in_ok-check_name.ensures, own)) (strange_bad (scenario_view c.args.self.now.scenario) c.args.other.now (K.of_session (Q.compare c.args.name.now c.args.other.now)) (λ strange. strange_second strange)) c.check_name-2.ensures
