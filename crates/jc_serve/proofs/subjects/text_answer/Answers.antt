use Rattle.std.proofs.Common.{sym, ◌∙◌}
use Rattle.std.proofs.lemmas.Result.{IfOk-weaker}
use Rattle.jc_serve.proofs.SubjectsLemmas.{misfit_told, other_told}
use Rattle.jc_serve.proofs.subjects.text_answer.Goals as goal

pub returns-then-tells_expected : goal.returns-then-tells_expected
returns-then-tells_expected c =
    IfOk-weaker c.misfit_answer.result _ _ (λ answer h. misfit_told c.args.text.now c.args.refusal c.args.place answer.items (sym c.tells_expected.ensures ∙ c.if-tells_expected.true) h) c.misfit_answer.ensures

pub returns : goal.returns
returns c =
    IfOk-weaker c.refused_text.result _ _ (λ answer h. other_told c.args.text.now c.args.refusal c.args.place answer.items (sym c.tells_expected.ensures ∙ c.if-tells_expected.false) h) c.refused_text.ensures.is
