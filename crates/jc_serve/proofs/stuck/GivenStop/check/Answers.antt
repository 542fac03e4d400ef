use Rattle.std.proofs.Common.{sym, subst}
use Rattle.jc_looks.specs.LookFaults.{Finds}
use Rattle.jc_scenario.specs.Views.{scenario_view}
use Rattle.jc_requests.specs.Asked as K
use Rattle.jc_requests.specs.Views.{asked_view}
use Rattle.jc_serve.specs.Answers.{IsGoodRequest, IsBadRequest, strange_maker}
use Rattle.jc_serve.proofs.FindsLemmas.{finds_weaker}
use Rattle.jc_serve.proofs.StopAnswersLemmas.{strange_bad}
use Rattle.jc_serve.proofs.stuck.GivenStop.check.Goals as goal

pub returns-in-BreakOp : goal.returns-in-BreakOp
returns-in-BreakOp c =
    let s = scenario_view c.args.self.now.scenario in
    let name = c.in-BreakOp.name.now in
    subst (λ r. Finds (λ x. IsGoodRequest s (asked_view r)) (IsBadRequest s (asked_view r)) c.check_name.result) (sym c.in-BreakOp.is)
    (finds_weaker c.check_name.result (λ x own. own) (strange_bad s name (K.break_op c.in-BreakOp.field-0 name) (λ strange. strange_maker strange)) c.check_name.ensures)
