use Rattle.std.proofs.Common.{[], Some, option_map, option_copied, string_bytes}
use Rattle.std.proofs.lemmas.Result.{IfOk-at_ok, IfOk-weaker}
use Rattle.serde.specs.Event.{Log}
use Rattle.serde_json.specs.Events.{SendsValue}
use Rattle.serde_json.specs.Sent.{IsTextOf}
use Rattle.serde_json.proofs.FreeTexts.{text_of_value}
use Rattle.jc_json.specs.Json.{object_of}
use Rattle.jc_dump.specs.DumpParts.{shown_members}
use Rattle.jc_dump.proofs.DumpFloatsLemmas.{shown_float}
use Rattle.jc_dump.proofs.dump.dump_text.Goals as goal

pub returns : goal.returns
returns g c =
    let names = c.args.names.now in
    let shown = c.args.shown.now in
    let tree = option_map (λ s. (g.S.TreeStore.tree s).now) (option_copied c.args.store) in
    let d = object_of (shown_members names shown tree) in
    IfOk-weaker c.unless_refused.result _ _ (λ s same.
    let sent = IfOk-at_ok (λ s. (log : Log) × SendsValue (object_of (shown_members names shown tree)) (Some []) log × IsTextOf log (string_bytes s)) {r = c.to_string.result} same c.to_string.ensures.events in
    text_of_value d sent.0 (string_bytes s) sent.1 sent.2 (shown_float names shown tree))
    c.unless_refused.ensures
