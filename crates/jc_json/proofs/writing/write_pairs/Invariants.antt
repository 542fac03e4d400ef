use Rattle.std.proofs.Common.{drop}
use Rattle.json.specs.Tree.{items_tokens}
use Rattle.jc_json.specs.Values.{pair_items}
use Rattle.jc_json.proofs.GainsLemmas.{Wrote}
use Rattle.jc_json.proofs.writing.write_pairs.Given as goal

abbrev pub invariant-loop-id : goal.invariant-loop-id
invariant-loop-id l =
    Wrote l.initial.out l.out (items_tokens (pair_items l.numbers l.names (drop l.id-index l.pairs))) (items_tokens (pair_items l.numbers l.names l.pairs))
