use Rattle.std.proofs.lemmas.Result.{err_from_is_err_and}
use Rattle.jc_serve.specs.InMemory.{mark_of}
use Rattle.jc_serve.proofs.BreakpointsLemmas.{no_place_lead, place_lead}
use Rattle.jc_serve.proofs.served.Served.break_place.Goals as goal

pub returns-in_err-mark : goal.returns-in_err-mark
returns-in_err-mark c =
    let q = err_from_is_err_and c.from_residual.result c.from_residual.ensures.1 in
    rw (q.1, q.2) (no_place_lead c.args.self.now c.net.result.now c.net.ensures.net c.net.ensures.is_at c.args.name.now c.args.expression.now _ c.in_err-mark.ensures)

pub returns : goal.returns
returns c text = place_lead c.args.self.now c.net.result.now c.net.ensures.net c.net.ensures.is_at c.args.name.now c.args.expression.now text c.set.new.self (mark_of c.in_ok-mark.mark) c.in_ok-set.field-0.items c.in_ok-mark.ensures c.in_ok-set.ensures
