use Rattle.std.proofs.Common.{◌≡◌, take}
use Rattle.jc_view.proofs.place.copy_path.Given as goal

abbrev pub invariant-loop-tagged : goal.invariant-loop-tagged
invariant-loop-tagged l = l.copy.items ≡ take l.tagged-index l.path
