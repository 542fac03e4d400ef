use Rattle.std.proofs.Common.{◌≡◌, take}
use Rattle.jc_rules.specs.Table.{kept}
use Rattle.jc_clear.proofs.registers.keep.Given as goal

abbrev pub invariant-loop-id : goal.invariant-loop-id
invariant-loop-id l = l.left.items ≡ kept l.deps (take l.id-index l.pairs)
