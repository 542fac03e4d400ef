use Rattle.std.proofs.Common.{sym, subst}
use Rattle.jc_scenario.specs.Views.{scenario_view}
use Rattle.jc_session.specs.Requests as Q
use Rattle.jc_requests.specs.Asked as K
use Rattle.jc_serve.specs.Answers.{IsBadRequest, no_rule}
use Rattle.jc_serve.proofs.FindsLemmas.{refuses_weaker}
use Rattle.jc_serve.proofs.stuck.GivenStop.check_rule.Goals as goal

pub returns-in-None : goal.returns-in-None
returns-in-None c =
    refuses_weaker c.of.result (λ answer is. subst (λ t. IsBadRequest (scenario_view c.args.self.now.scenario) (K.of_session (Q.break_rule c.args.name.now)) t) (sym is) (no_rule c.in-None.ensures.none)) c.of.ensures
