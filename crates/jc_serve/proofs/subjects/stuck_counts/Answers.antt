use Rattle.std.proofs.Common.{codes, ap, ◌∙◌}
use Rattle.std.proofs.lemmas.Result.{IfOk-weaker}
use Rattle.jc_answers.specs.JsonTexts.{text_member}
use Rattle.jc_serve.specs.Subjects.{counts_answer}
use Rattle.jc_serve.proofs.subjects.stuck_counts.Goals as goal

pub returns : goal.returns
returns c =
    IfOk-weaker c.counts.result _ _ (λ answer h s stop v.
    let member = c.text.ensures ∙ ap (text_member (codes "stuck")) (c.as_slice.ensures.value ∙ c.in_ok-line.ensures s stop v) in
    h ∙ (λ i. counts_answer (v.scenario i) (member i))) c.counts.ensures
