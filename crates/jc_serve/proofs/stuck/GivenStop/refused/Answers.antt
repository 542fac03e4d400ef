use Rattle.std.proofs.lemmas.Result.{err_from_is_err_and}
use Rattle.jc_requests.specs.Views.{asked_view}
use Rattle.jc_serve.proofs.StopAnswersLemmas.{plain_refused, bad_refused}
use Rattle.jc_serve.proofs.stuck.GivenStop.refused.Goals as goal

pub returns-in_err-check : goal.returns-in_err-check
returns-in_err-check c =
    let q = err_from_is_err_and c.from_residual.result c.from_residual.ensures.1 in
    rw (q.1, q.2) (bad_refused c.args.self.now (asked_view c.args.request) _ c.in_err-check.ensures)

pub returns : goal.returns
returns c = plain_refused c.args.self.now (asked_view c.args.request) c.refuse.result c.requires.plain c.in_ok-check.ensures c.refuse.ensures
