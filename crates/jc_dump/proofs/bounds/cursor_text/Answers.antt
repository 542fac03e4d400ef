use Rattle.std.proofs.Common.{ap, ◌∙◌}
use Rattle.std.proofs.lemmas.Result.{IfOk-weaker}
use Rattle.serde_json.specs.Written.{has_float, compact_text}
use Rattle.jc_dump.specs.Dump.{cursor_text}
use Rattle.jc_dump.proofs.DumpFloatsLemmas.{cursor_float}
use Rattle.jc_dump.proofs.bounds.cursor_text.Goals as goal

pub returns : goal.returns
unfolding cursor_text
returns c = IfOk-weaker c.to_string.result _ _
    (λ s text. text (ap has_float c.in_ok-cursor_value.ensures ∙ cursor_float c.args.names.now c.args.cursor.now) ∙ ap compact_text c.in_ok-cursor_value.ensures)
    c.to_string.ensures.text
