use Rattle.jc_memory_tests.specs.Ready.{IsReady}
use Rattle.jc_memory_tests.proofs.lists.grow.Given as goal

abbrev pub invariant-loop-index : goal.invariant-loop-index
invariant-loop-index g l = IsReady l.index (g.S.TreeStore.tree l.store).now
