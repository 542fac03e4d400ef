use Rattle.std.proofs.Common.{codes, ap, sym, ◌∙◌}
use Rattle.std.proofs.lemmas.Result.{IfOk-weaker}
use Rattle.jc_answers.specs.JsonTexts.{string_member, object_text}
use Rattle.jc_listings.specs.WovenTexts.{key_if_any, stuck_members}
use Rattle.jc_listings.proofs.weaving.stuck_end.Goals as goal

pub returns-in-Some : goal.returns-in-Some
returns-in-Some c =
    let stuck = c.args.stuck.now in
    let event = c.as_str-in-Some.ensures.value ∙ c.in_ok-event.ensures in
    let key = c.string-key.ensures ∙ (ap (string_member (codes "key")) (c.as_str.ensures.value ∙ c.in_ok-text-in-Some.ensures) ∙ sym (ap (key_if_any c.args.names.now) c.in-Some.is)) in
    IfOk-weaker c.stuck_text.result _ _ (λ answer h. h ∙ (λ i. object_text (stuck_members c.args.name.now c.args.made stuck.refusal (event i) (key i)))) c.stuck_text.ensures
