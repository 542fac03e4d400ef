use Rattle.std.proofs.Common.{length, filter, option_copied}
use Rattle.jc_tree.specs.Tree.{is_after, all_keys}
use Rattle.jc_tree.proofs.LentLemmas.{IsLentTo}
use Rattle.jc_tree.proofs.node.Node.keys_in_order.Given as goal

abbrev pub invariant-loop-key : goal.invariant-loop-key
invariant-loop-key l = IsLentTo (option_copied l.last) (all_keys l.self) l.lent.items

abbrev pub decreases-loop-key : goal.decreases-loop-key
decreases-loop-key l = length (filter (λ k. is_after (option_copied l.last) k) (all_keys l.self))
