use Rattle.std.proofs.lemmas.Result.{err_from_is_err_and}
use Rattle.jc_requests.specs.Views.{at_view}
use Rattle.jc_serve.proofs.StopAnswersLemmas.{event_refused, event_answer}
use Rattle.jc_serve.proofs.stuck.GivenStop.event_at.Goals as goal

pub returns-in_err-count : goal.returns-in_err-count
returns-in_err-count c =
    let q = err_from_is_err_and c.from_residual.result c.from_residual.ensures.1 in
    rw (q.1, q.2) (event_refused c.args.self.now (at_view c.args.at) c.args.details.trace c.args.details.effects _ c.in_err-count.ensures)

pub returns : goal.returns
returns c text s stop is v = event_answer text s stop (at_view c.args.at) c.args.details.trace c.args.details.effects c.args.self.now v c.in_ok-count.count c.in_ok-event.field-0.items (c.in_ok-count.ensures s stop v) (c.in_ok-event.ensures s stop v)
