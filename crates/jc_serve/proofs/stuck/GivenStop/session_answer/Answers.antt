use Rattle.std.proofs.Common.{refl, sym, subst}
use Rattle.jc_session.specs.Views.{request_view}
use Rattle.jc_requests.specs.Asked as K
use Rattle.jc_serve.specs.AnswerOf.{AnswersStop}
use Rattle.jc_serve.proofs.DispatchLemmas.{quit_stop}
use Rattle.jc_serve.proofs.StopAnswersLemmas.{not_quit}
use Rattle.jc_serve.proofs.stuck.GivenStop.session_answer.Goals as goal

pub returns-in_ok-quit_answer-in-Quit : goal.returns-in_ok-quit_answer-in-Quit
returns-in_ok-quit_answer-in-Quit c text =
    let x = c.args.self.now in
    let w = c.in_ok-quit_answer-in-Quit in
    subst (λ r. AnswersStop text x (K.of_session (request_view r)) w.field-0.items) (sym c.in-Quit.is) (quit_stop text x w.field-0.items w.ensures)

pub refused-requires-clause-plain : goal.refused-requires-clause-plain
refused-requires-clause-plain c = (λ h. h, refl, not_quit c.args.request c.in_default.not-Quit)
