use Rattle.std.proofs.Common.{drop}
use Rattle.json.specs.Tree.{items_tokens}
use Rattle.jc_json.proofs.GainsLemmas.{Wrote}
use Rattle.jc_json.specs.Values.{string_items}
use Rattle.jc_journal.specs.Operation.{cursor_texts}
use Rattle.jc_journal.proofs.operation.write_cursor.Given as goal

abbrev pub invariant-loop-tagged : goal.invariant-loop-tagged
invariant-loop-tagged l =
    Wrote l.initial.out l.out (items_tokens (string_items (cursor_texts l.names (drop l.tagged-index l.tagged-items) l.cursor.last))) (items_tokens (string_items (cursor_texts l.names l.tagged-items l.cursor.last)))
