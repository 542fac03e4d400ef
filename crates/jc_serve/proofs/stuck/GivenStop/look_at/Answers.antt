use Rattle.std.proofs.lemmas.Result.{err_from_is_err_and}
use Rattle.jc_requests.specs.Views.{at_view}
use Rattle.jc_serve.specs.AnswerOf as O
use Rattle.jc_serve.proofs.FindsLemmas.{answers_weaker}
use Rattle.jc_serve.proofs.StopAnswersLemmas.{look_refused}
use Rattle.jc_serve.proofs.stuck.GivenStop.look_at.Goals as goal

pub returns-in_err-count : goal.returns-in_err-count
returns-in_err-count c =
    let q = err_from_is_err_and c.from_residual.result c.from_residual.ensures.1 in
    rw (q.1, q.2) (look_refused c.args.self.now (at_view c.args.at) c.args.look.now _ c.in_err-count.ensures)

pub returns : goal.returns
returns c = answers_weaker c.look.result (λ answer h s stop v. O.shows (c.in_ok-count.ensures s stop v) (h s stop v)) c.look.ensures
