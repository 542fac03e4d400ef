use Rattle.std.proofs.lemmas.Result.{err_from_is_err_and}
use Rattle.jc_session.specs.Requests as Q
use Rattle.jc_requests.specs.Asked as K
use Rattle.jc_serve.specs.Answers.{strange_break}
use Rattle.jc_serve.proofs.BreakpointsLemmas.{strange_lead, breaks_replica}
use Rattle.jc_serve.proofs.served.Served.break_replica.Goals as goal

pub returns-in_err-p : goal.returns-in_err-p
returns-in_err-p c =
    let q = err_from_is_err_and c.from_residual.result c.from_residual.ensures.1 in
    rw (q.1, q.2) (strange_lead c.args.self.now c.net.result.now c.names.result.now c.args.name.now (K.of_session (Q.break_replica c.args.name.now)) _ c.net.ensures.net c.names.ensures.names (λ s strange. strange_break strange) c.in_err-p.ensures)

pub returns : goal.returns
returns c text = breaks_replica text c.args.self.now c.set.new.self c.net.result.now c.names.result.now c.args.name.now c.in_ok-p.p c.in_ok-set.field-0.items c.net.ensures.net c.names.ensures.names c.in_ok-p.ensures c.in_ok-set.ensures
