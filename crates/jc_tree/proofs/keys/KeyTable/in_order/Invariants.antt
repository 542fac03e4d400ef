use Rattle.std.proofs.Common.{◌≡◌, ◌++◌}
use Rattle.jc_rules.specs.Entries.{keys_of}
use Rattle.jc_tree.specs.Tree.{keys_lent}
use Rattle.jc_tree.proofs.keys.KeyTable.in_order.Given as goal

abbrev pub invariant-loop-key : goal.invariant-loop-key
invariant-loop-key l = keys_lent l.lent.items ++ keys_of l.key-iterator ≡ keys_of l.self.order
