use Rattle.std.proofs.Common.{List, subst, ap, ◌∙◌, codes}
use Rattle.std.proofs.lemmas.Result.{IfOk-weaker}
use Rattle.jc_answers.specs.JsonTexts.{NamedText, text_member}
use Rattle.jc_answers.specs.Refusals.{IsRefusedTextWith}
use Rattle.jc_serve.proofs.subjects.misfit_answer.Goals as goal

pub returns : goal.returns
returns c =
    let member = c.text-member.ensures ∙ ap (text_member (codes "expected")) c.as_slice.ensures.value in
    IfOk-weaker c.refused_text_with.result _ _ (λ answer h.
    (c.in_ok-list.list.items, c.in_ok-list.ensures, subst (λ (ms : List NamedText). IsRefusedTextWith ms c.args.text.now c.args.refusal c.args.place answer.items) member h)) c.refused_text_with.ensures.is
