use Rattle.std.proofs.Common.{ap, codes, map, ◌∙◌}
use Rattle.std.proofs.lemmas.Result.{IfOk-weaker}
use Rattle.jc_rules.specs.Runs.{rows_of_all}
use Rattle.jc_printer.specs.Canon.{canon_event}
use Rattle.jc_answers.specs.JsonTexts.{number_member, string_member, text_member, array_text, object_text}
use Rattle.jc_replies.specs.ReplyTexts.{row_text}
use Rattle.jc_replies.proofs.MovesLemmas.{three_members}
use Rattle.jc_replies.proofs.shown.traced.Goals as goal

pub returns : goal.returns
returns c =
    IfOk-weaker c.object_text.result _ _ (λ answer h.
    h ∙ ap object_text (
    three_members c.string.result c.number.result c.text.result
    (string_member (codes "event") (canon_event c.args.names.now c.args.event.now)) (number_member (codes "number") c.args.n) (text_member (codes "rules") (array_text (map row_text (rows_of_all c.args.runs.now))))
    (c.string.ensures ∙ ap (string_member (codes "event")) (c.as_str.ensures.value ∙ c.in_ok-text.ensures))
    c.number.ensures
    (c.text.ensures ∙ ap (text_member (codes "rules")) (c.as_slice.ensures.value ∙ c.in_ok-rules.ensures)))) c.object_text.ensures
