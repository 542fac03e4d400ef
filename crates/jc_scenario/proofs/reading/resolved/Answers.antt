use Rattle.std.proofs.Common.{refl}
use Rattle.std.proofs.lemmas.Result.{err_from_is_err_and}
use Rattle.jc_scenario.proofs.UnknownNamesLemmas.{one_more, first_stranger}
use Rattle.jc_scenario.proofs.reading.resolved.Goals as goal

pub returns-in_err-resolve-clause-fault : goal.returns-in_err-resolve-clause-fault
returns-in_err-resolve-clause-fault c =
    let p = err_from_is_err_and c.from_residual.result c.from_residual.ensures.1 in
    rw (p.1, p.2) (λ kept. (c.in_err-resolve.field-0.0.place, first_stranger c.args.names.now c.args.events.now c.loop-event.numbered.items c.loop-event.event-index c.event-item.result c.in_err-resolve.field-0.0.place c.loop-event-test.true c.event-item.is c.loop-event.invariant c.in_err-resolve.ensures.fault, refl))

pub loop-event-preserved : goal.loop-event-preserved
loop-event-preserved c =
    rw (c.in_ok-push.ensures.items)
    (one_more c.args.names.now c.args.events.now c.loop-event.numbered.items c.loop-event.event-index c.event-item.result c.in_ok-resolve.field-0 c.loop-event-test.true c.event-item.is c.loop-event.invariant c.in_ok-resolve.ensures.event)
