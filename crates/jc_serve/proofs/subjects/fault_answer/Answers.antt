use Rattle.std.proofs.Common.{sym, ◌∙◌}
use Rattle.std.proofs.lemmas.Result.{IfOk-weaker}
use Rattle.jc_serve.proofs.subjects.fault_answer.Goals as goal

pub returns : goal.returns
returns c =
    let w = c.in-Some-Some in
    IfOk-weaker c.text_answer.result _ _ (λ answer h.
    record { refusal = w.refusal; place = w.place; is_refusal = sym c.refusal.ensures ∙ w.is-0; is_place = sym c.place.ensures ∙ w.is-1; written = h }) c.text_answer.ensures
