use Rattle.std.proofs.Common.{◌≡◌, drop}
use Rattle.jc_meaning.specs.Meaning.{is_cleared}
use Rattle.jc_meaning.proofs.touching.is_cleared.Given as goal

abbrev pub invariant-loop-op : goal.invariant-loop-op
invariant-loop-op l = is_cleared l.ops l.at l.key l.id ≡ is_cleared (drop l.op-index l.ops) l.at l.key l.id
