use Rattle.jc_memory_tests.specs.Ready.{IsReady}
use Rattle.jc_memory_tests.proofs.stores.applied_at_last.Given as goal

abbrev pub invariant-loop-n : goal.invariant-loop-n
invariant-loop-n g l = IsReady l.count (g.S.TreeStore.tree l.store).now
