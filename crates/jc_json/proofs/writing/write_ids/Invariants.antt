use Rattle.std.proofs.Common.{drop, map}
use Rattle.json.specs.Tree.{items_tokens}
use Rattle.jc_json.specs.Json.{id_text}
use Rattle.jc_json.proofs.GainsLemmas.{Wrote}
use Rattle.jc_json.specs.Values.{string_items}
use Rattle.jc_json.proofs.writing.write_ids.Given as goal

abbrev pub invariant-loop-id : goal.invariant-loop-id
invariant-loop-id l =
    Wrote l.initial.out l.out (items_tokens (string_items (map (λ i. id_text l.names i) (drop l.id-index l.ids)))) (items_tokens (string_items (map (λ i. id_text l.names i) l.ids)))
