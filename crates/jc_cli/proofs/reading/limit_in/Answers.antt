use Rattle.std.proofs.Common.{sym}
use Rattle.jc_cli.proofs.LimitsLemmas.{within, outside}
use Rattle.jc_cli.proofs.reading.limit_in.Goals as goal

pub returns-in-Ok : goal.returns-in-Ok
returns-in-Ok c =
    let read = c.in-Ok.ensures.value.0 in
    sym (within c.args.text.now c.in-Ok.limit read.0 read.1 c.if-limit-le-MAX_THREAD_EVENTS.true)

pub returns-in_default-2 : goal.returns-in_default-2
returns-in_default-2 c = sym (outside c.args.text.now (λ h. c.in_default.ensures.value.0 (h.0, h.1)))
