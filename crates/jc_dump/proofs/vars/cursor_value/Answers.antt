use Rattle.std.proofs.Common.{rules, ◌≡◌, arith}
use Rattle.serde_json.specs.Data.{string}
use Rattle.serde_json.specs.View.{view}
use Rattle.jc_json.specs.Json.{tagged_text}
use Rattle.jc_dump.proofs.DumpListsLemmas.{texts_more}
use Rattle.jc_dump.proofs.vars.cursor_value.Goals as goal

pub loop-key-preserved : goal.loop-key-preserved
loop-key-preserved c =
    let key = c.key-item.result in
    let shown : view c.from.result ≡ string (tagged_text c.args.names.now key) = search rules in
    rw c.in_ok-push.ensures.items (texts_more (λ t. tagged_text c.args.names.now t) c.loop-key.texts.items c.from.result c.as_slice-key-items.result.now c.loop-key.key-index key key (omega arith) c.key-item.is c.loop-key.invariant shown)
