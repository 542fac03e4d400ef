use Rattle.std.proofs.Common.{◌≡◌, map, take}
use Rattle.serde_json.specs.Data.{string}
use Rattle.serde_json.specs.View.{view}
use Rattle.jc_json.specs.Json.{tagged_text}
use Rattle.jc_dump.proofs.vars.cursor_value.Given as goal

abbrev pub invariant-loop-key : goal.invariant-loop-key
invariant-loop-key l = map view l.texts.items ≡ map string (map (λ t. tagged_text l.names t) (take l.key-index l.key-items))
