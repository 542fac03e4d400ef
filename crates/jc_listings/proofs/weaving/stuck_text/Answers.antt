use Rattle.std.proofs.Common.{codes, ap, ◌∙◌}
use Rattle.std.proofs.lemmas.Result.{IfOk-weaker}
use Rattle.jc_answers.specs.JsonTexts.{number_member, string_member, object_text}
use Rattle.jc_listings.proofs.WovenTextsLemmas.{seven_members}
use Rattle.jc_listings.proofs.weaving.stuck_text.Goals as goal

pub returns : goal.returns
returns c =
    IfOk-weaker c.object_text.result _ _ (λ answer h.
    h ∙ ap object_text (
    seven_members c.string.result c.string-2.result c.string-3.result c.args.key c.number.result c.string-4.result c.number-3.result c.args.name.now c.args.made c.args.refusal c.args.event.now
    (c.string.ensures ∙ ap (string_member (codes "cause")) c.name.ensures) c.string-2.ensures c.string-3.ensures c.number.ensures c.string-4.ensures
    (c.number-3.ensures ∙ ap (number_member (codes "stuck")) c.number-2.ensures))) c.object_text.ensures
