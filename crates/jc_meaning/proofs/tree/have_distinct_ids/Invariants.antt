use Rattle.std.proofs.Common.{◌↔◌, length}
use Rattle.jc_rules.specs.WellFormed.{AreDistinct}
use Rattle.jc_replica.specs.Operations.{identifiers}
use Rattle.jc_meaning.proofs.tree.have_distinct_ids.Given as goal

abbrev pub invariant-loop-op : goal.invariant-loop-op
invariant-loop-op l = AreDistinct (identifiers l.ops) ↔ AreDistinct (identifiers l.rest)

abbrev pub decreases-loop-op : goal.decreases-loop-op
decreases-loop-op l = length l.rest
