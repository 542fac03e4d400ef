use Rattle.jc_rules.specs.WellFormed.{IsChained}
use Rattle.jc_memory_tests.proofs.stores.refused_clearing.Given as goal

abbrev pub invariant-loop-n : goal.invariant-loop-n
invariant-loop-n g l = IsChained (g.S.TreeStore.tree l.store).now
