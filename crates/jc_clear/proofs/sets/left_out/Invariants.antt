use Rattle.std.proofs.Common.{◌≡◌, take}
use Rattle.jc_rules.specs.Ids.{without}
use Rattle.jc_clear.proofs.sets.left_out.Given as goal

abbrev pub invariant-loop-id : goal.invariant-loop-id
invariant-loop-id l = l.left.items ≡ without (take l.id-index l.ids) l.deps
