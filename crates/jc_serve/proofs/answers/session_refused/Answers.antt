use Rattle.std.proofs.Common.{sym, subst}
use Rattle.std.proofs.lemmas.Result.{IfOk-weaker}
use Rattle.jc_session.specs.Requests as Q
use Rattle.jc_session.specs.Views.{request_view}
use Rattle.jc_requests.specs.Asked as K
use Rattle.jc_serve.specs.Subjects.{IsFaultAnswer}
use Rattle.jc_serve.specs.Answers.{AnswersRefused, quits, refuses}
use Rattle.jc_serve.proofs.StopAnswersLemmas.{no_quit, no_rule_request}
use Rattle.jc_serve.proofs.answers.session_refused.Goals as goal

pub returns-in-Quit : goal.returns-in-Quit
returns-in-Quit c =
    IfOk-weaker c.quit_answer.result _ _ (λ answer is text fault says.
    subst (λ r. AnswersRefused text fault (K.of_session (request_view r)) answer.items) (sym c.in-Quit.is)
    (subst (λ t. AnswersRefused text fault (K.of_session Q.quit) t) (sym is) quits)) c.quit_answer.ensures

pub returns-in_default : goal.returns-in_default
returns-in_default c =
    IfOk-weaker c.to_vec.result _ _ (λ answer is text fault says. refuses (no_quit c.args.request c.in_default.not-Quit) (λ w none. no_rule_request c.args.request c.in_default.not-BreakRule w) (subst (λ a. IsFaultAnswer text fault a) (sym (is (λ x y e. e))) says)) c.to_vec.ensures.items_if_clones_equal
