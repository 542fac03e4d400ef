use Rattle.std.proofs.Common.{◌≡◌, [], ◌∷◌, take, ap, ◌∙◌, codes}
use Rattle.std.proofs.lemmas.List.{take_min}
use Rattle.std.proofs.lemmas.Result.{IfOk-weaker}
use Rattle.jc_answers.specs.JsonTexts.{number_member, string_member}
use Rattle.jc_answers.specs.Parts.{member_of}
use Rattle.jc_answers.specs.Refusals.{line_behind, column_behind}
use Rattle.jc_answers.proofs.RefusedLemmas.{seven_members, is_refused, one_refused}
use Rattle.jc_answers.proofs.refusals.refused_text_with.Goals as goal

pub returns-clause-is : goal.returns-clause-is
returns-clause-is c =
    let text = c.args.text.now in
    let place = c.args.place in
    let stop = c.end_of-end.result in
    let more = member_of c.args.more in
    let cut : take c.min.result text ≡ take place text = ap (λ n. take n text) c.min.ensures ∙ take_min place text in
    let ms = c.number.result ∷ c.number-2.result ∷ c.args.more ∷ c.number-3.result ∷ c.string.result ∷ c.number-5.result ∷ c.number-6.result ∷ [] in
    let members = seven_members c.number.result c.number-2.result c.args.more c.number-3.result c.string.result c.number-5.result c.number-6.result text c.args.refusal place stop
    (c.number.ensures ∙ ap (number_member (codes "column")) (c.position_behind-position.ensures.column ∙ ap column_behind cut))
    c.number-2.ensures
    (c.number-3.ensures ∙ ap (number_member (codes "line")) (c.position_behind-position.ensures.line ∙ ap line_behind cut))
    (c.string.ensures ∙ ap (string_member (codes "name")) c.name.ensures)
    (c.number-5.ensures ∙ ap (number_member (codes "number")) c.number-4.ensures)
    c.number-6.ensures in
    IfOk-weaker c.refused_with.result _ _ (λ answer h. is_refused more text answer.items c.args.refusal place stop ms c.end_of-end.ensures h members) c.refused_with.ensures

pub returns-clause-only : goal.returns-clause-only
returns-clause-only c =
    IfOk-weaker c.refused_with.result _ _ (λ answer h other. one_refused (member_of c.args.more) c.args.text.now c.args.refusal c.args.place answer.items other h) (returns-clause-is c)
