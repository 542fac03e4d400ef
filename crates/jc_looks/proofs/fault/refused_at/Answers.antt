use Rattle.std.proofs.lemmas.Result.{IfOk-weaker}
use Rattle.jc_looks.proofs.fault.refused_at.Goals as goal

pub returns : goal.returns
returns c =
    let w = c.in-Some-Some in
    IfOk-weaker c.refused_text.result _ _ (λ answer h. record { which = w.refusal; at = w.place; is_refusal = w.is-0; is_place = w.is-1; written = h }) c.refused_text.ensures.is
