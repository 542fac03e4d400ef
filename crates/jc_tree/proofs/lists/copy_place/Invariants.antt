use Rattle.std.proofs.Common.{◌≡◌, take}
use Rattle.jc_tree.proofs.lists.copy_place.Given as goal

abbrev pub invariant-loop-key : goal.invariant-loop-key
invariant-loop-key l = l.copy.items ≡ take l.key-index l.at
