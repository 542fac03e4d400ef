use Rattle.std.proofs.Common.{◌≡◌, ◌++◌, option_copied, filter, length}
use Rattle.jc_rules.specs.Entries.{keys_of}
use Rattle.jc_tree.specs.Tree.{least_after, is_after}
use Rattle.jc_tree.specs.Numbered.{column_entries}
use Rattle.jc_tree.proofs.arena_node.ArenaNode.key_after.Given as goal

abbrev pub invariant-loop-key : goal.invariant-loop-key
invariant-loop-key l =
    let i = l.self-inside in
    let ks = keys_of (column_entries i.maps.items i.keys) ++ keys_of (column_entries i.lists.items i.keys) ++ keys_of (column_entries i.registers.items i.keys) in
    least_after (option_copied l.last) ks ≡ least_after (option_copied l.after) ks

abbrev pub decreases-loop-key : goal.decreases-loop-key
decreases-loop-key l = length (filter (λ k. is_after (option_copied l.last) k) (keys_of l.self-inside.keys.order))
