use Rattle.std.proofs.Common.{drop, map}
use Rattle.json.specs.Tree.{items_tokens}
use Rattle.jc_json.specs.Json.{id_text}
use Rattle.jc_replica.specs.Operations.{identifiers}
use Rattle.jc_json.proofs.GainsLemmas.{Wrote}
use Rattle.jc_json.specs.Values.{string_items}
use Rattle.jc_journal.proofs.operation.write_ids_of.Given as goal

abbrev pub invariant-loop-op : goal.invariant-loop-op
invariant-loop-op l =
    Wrote l.initial.out l.out (items_tokens (string_items (map (λ i. id_text l.names i) (identifiers (drop l.op-index l.ops))))) (items_tokens (string_items (map (λ i. id_text l.names i) (identifiers l.ops))))
