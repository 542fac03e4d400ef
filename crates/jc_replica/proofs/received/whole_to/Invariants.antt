use Rattle.std.proofs.Common.{List, filter}
use Rattle.jc_rules.specs.declared.operation.Op.{Op}
use Rattle.jc_replica.specs.Received.{AreAmong, HasEach, IsContiguousTo, is_new}
use Rattle.jc_replica.proofs.received.whole_to.Given as goal

abbrev pub invariant-loop-offered : goal.invariant-loop-offered
invariant-loop-offered l = (os : List Op) → HasEach l.ops os → AreAmong (filter (is_new l.ops) l.read) os → IsContiguousTo l.replica os l.fn.from → IsContiguousTo l.replica os l.last
