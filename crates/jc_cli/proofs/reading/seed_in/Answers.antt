use Rattle.std.proofs.Common.{sym}
use Rattle.jc_cli.proofs.LimitsLemmas.{seed_within, seed_outside}
use Rattle.jc_cli.proofs.reading.seed_in.Goals as goal

pub returns-in-Ok : goal.returns-in-Ok
returns-in-Ok c =
    let read = c.in-Ok.ensures.value.0 in
    sym (seed_within c.args.text.now c.in-Ok.seed read.0 read.1)

pub returns-in-Err : goal.returns-in-Err
returns-in-Err c = sym (seed_outside c.args.text.now (λ h. c.in-Err.ensures.value.0 (h.0, h.1)))
