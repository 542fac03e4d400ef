use Rattle.std.proofs.Common.{◌++◌, codes, ap, ◌∙◌}
use Rattle.std.proofs.lemmas.Result.{IfOk-weaker}
use Rattle.jc_rules.specs.declared.refusal.Refusal.TheVariants.{NoSuchNode}
use Rattle.jc_answers.specs.JsonTexts.{string_member}
use Rattle.jc_answers.specs.Refusals.{refused_object, refusal_members}
use Rattle.jc_looks.proofs.values.no_node.Goals as goal

pub returns : goal.returns
returns c =
    let key = c.string.ensures ∙ ap (string_member (codes "key")) (c.as_str.ensures.value ∙ c.in_ok-key.ensures) in
    IfOk-weaker c.refused_with.result _ _ (λ answer h. h ∙ (λ i. refused_object (key i ++ (refusal_members NoSuchNode ++ c.absent.ensures i)))) c.refused_with.ensures
