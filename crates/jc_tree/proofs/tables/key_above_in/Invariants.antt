use Rattle.std.proofs.Common.{◌≡◌, option_copied, filter, length}
use Rattle.jc_rules.specs.Entries.{keys_of}
use Rattle.jc_tree.specs.Tree.{least_after, is_after}
use Rattle.jc_tree.specs.Numbered.{column_entries}
use Rattle.jc_tree.proofs.tables.key_above_in.Given as goal

abbrev pub invariant-loop-key : goal.invariant-loop-key
invariant-loop-key g l =
    least_after (option_copied l.last) (keys_of (column_entries l.column l.keys)) ≡ least_after (option_copied l.after) (keys_of (column_entries l.column l.keys))

abbrev pub decreases-loop-key : goal.decreases-loop-key
decreases-loop-key g l = length (filter (λ k. is_after (option_copied l.last) k) (keys_of l.keys.order))
