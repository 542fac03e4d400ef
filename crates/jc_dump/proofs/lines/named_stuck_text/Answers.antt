use Rattle.std.proofs.Common.{◌≡◌, string_bytes, ◌∙◌}
use Rattle.std.proofs.lemmas.Result.{IfOk-weaker}
use Rattle.jc_printer.specs.Canon.{canon_event}
use Rattle.jc_dump.proofs.LinesLemmas.{line_without}
use Rattle.jc_dump.proofs.lines.named_stuck_text.Goals as goal

pub returns : goal.returns
returns c =
    let names = c.args.names.now in
    let s = c.args.stuck.now in
    let text : c.as_str-in-None.result.now ≡ canon_event names s.event = c.as_str-in-None.ensures.value ∙ c.in_ok-event.ensures in
    IfOk-weaker c.stuck_line.result _ _ (λ line shown why event is. line_without names s why event is c.number-in-None.result c.name-in-None.result.now c.as_str-in-None.result.now (string_bytes line) c.in-None.is c.number-in-None.ensures c.name-in-None.ensures text shown) c.stuck_line.ensures
