use Rattle.std.proofs.Common.{[], Some, string_bytes}
use Rattle.std.proofs.lemmas.Result.{IfOk-at_ok, IfOk-weaker}
use Rattle.serde.specs.Event.{Log}
use Rattle.serde_json.specs.Events.{SendsValue}
use Rattle.serde_json.specs.Sent.{IsTextOf}
use Rattle.serde_json.proofs.FreeTexts.{text_of_value}
use Rattle.jc_cursor.specs.Bounds.{bound_of}
use Rattle.jc_dump.specs.Dump.{bound_data, bound_text}
use Rattle.jc_dump.proofs.DumpFloatsLemmas.{bound_float}
use Rattle.jc_dump.proofs.bounds.bound_text.Goals as goal

pub returns : goal.returns
unfolding bound_text
returns c =
    let names = c.args.names.now in
    let b = bound_of c.args.bound.now in
    IfOk-weaker c.unless_refused.result _ _ (λ s same.
    let sent = IfOk-at_ok (λ s. (log : Log) × SendsValue (bound_data names b) (Some []) log × IsTextOf log (string_bytes s)) {r = c.to_string.result} same c.to_string.ensures.events in
    text_of_value (bound_data names b) sent.0 (string_bytes s) sent.1 sent.2 (bound_float names b))
    c.unless_refused.ensures
