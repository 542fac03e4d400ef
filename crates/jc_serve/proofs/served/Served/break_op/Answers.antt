use Rattle.std.proofs.lemmas.Result.{err_from_is_err_and}
use Rattle.jc_requests.specs.Asked as K
use Rattle.jc_serve.specs.Answers.{strange_maker}
use Rattle.jc_serve.proofs.BreakpointsLemmas.{strange_lead, breaks_op}
use Rattle.jc_serve.proofs.served.Served.break_op.Goals as goal

pub returns-in_err-replica : goal.returns-in_err-replica
returns-in_err-replica c =
    let q = err_from_is_err_and c.from_residual.result c.from_residual.ensures.1 in
    rw (q.1, q.2) (strange_lead c.args.self.now c.net.result.now c.names.result.now c.args.name.now (K.break_op c.args.counter c.args.name.now) _ c.net.ensures.net c.names.ensures.names (λ s strange. strange_maker strange) c.in_err-replica.ensures)

pub returns : goal.returns
returns c text = breaks_op text c.args.self.now c.set.new.self c.net.result.now c.names.result.now c.args.name.now c.args.counter c.in_ok-replica.replica c.in_ok-set.field-0.items c.net.ensures.net c.names.ensures.names c.in_ok-replica.ensures c.in_ok-set.ensures
