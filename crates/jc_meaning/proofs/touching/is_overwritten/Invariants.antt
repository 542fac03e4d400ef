use Rattle.std.proofs.Common.{◌≡◌, ◌&&◌, drop}
use Rattle.jc_rules.specs.Ids.{has_id}
use Rattle.jc_meaning.specs.Effects.{overwrites}
use Rattle.jc_meaning.specs.Meaning.{some_op}
use Rattle.jc_meaning.proofs.touching.is_overwritten.Given as goal

abbrev pub invariant-loop-op : goal.invariant-loop-op
invariant-loop-op l = some_op (λ a. overwrites a l.at l.key && has_id l.id a.deps) l.ops ≡ some_op (λ a. overwrites a l.at l.key && has_id l.id a.deps) (drop l.op-index l.ops)
