use Rattle.std.proofs.Common.{◌≡◌, drop, is_some}
use Rattle.jc_rules.specs.Table.{op_of}
use Rattle.jc_meaning.proofs.tree.has_op.Given as goal

abbrev pub invariant-loop-op : goal.invariant-loop-op
invariant-loop-op l = is_some (op_of l.id l.ops) ≡ is_some (op_of l.id (drop l.op-index l.ops))
