use Rattle.std.proofs.Common.{subst}
use Rattle.jc_looks.specs.LookFaults.{RefusesBy, IsRefusedAt}
use Rattle.jc_serve.proofs.BreakpointsLemmas.{misspelled}
use Rattle.jc_serve.proofs.asking.expression_at.Goals as goal

pub returns-in-Err : goal.returns-in-Err
returns-in-Err c =
    misspelled c.args.names.now c.args.name.now c.args.text.now c.in_ok-p.p c.in-Err.fault c.refusal.result c.place.result c.of_text.result c.in_ok-p.ensures c.in-Err.ensures.fault c.refusal.ensures c.place.ensures
    (subst (λ t. RefusesBy (IsRefusedAt t c.refusal.result c.place.result) c.of_text.result) c.as_bytes.ensures.value c.of_text.ensures)
