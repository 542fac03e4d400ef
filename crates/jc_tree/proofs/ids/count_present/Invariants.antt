use Rattle.std.proofs.Common.{◌≡◌, ◌≤◌, take}
use Rattle.jc_tree.specs.Tree.{count_present}
use Rattle.jc_tree.proofs.ids.count_present.Given as goal

abbrev pub invariant-loop-ids : goal.invariant-loop-ids
invariant-loop-ids l = (l.count ≡ count_present (take l.ids-index l.sets)) × (l.count ≤ l.ids-index)
