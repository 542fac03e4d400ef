use Rattle.std.proofs.lemmas.Result.{err_from_is_err_and}
use Rattle.jc_requests.specs.Views.{at_view}
use Rattle.jc_serve.proofs.EventsLemmas.{no_event_there}
use Rattle.jc_serve.proofs.served.Served.event_at.Goals as goal

pub returns-in_err-count : goal.returns-in_err-count
returns-in_err-count c =
    let q = err_from_is_err_and c.from_residual.result c.from_residual.ensures.1 in
    rw (q.1, q.2) (no_event_there c.args.self.now (at_view c.args.at) c.args.details _ c.in_err-count.ensures.count)
