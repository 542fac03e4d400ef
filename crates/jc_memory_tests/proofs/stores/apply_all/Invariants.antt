use Rattle.jc_memory_tests.specs.Ready.{IsReady}
use Rattle.jc_memory_tests.proofs.stores.apply_all.Given as goal

abbrev pub invariant-loop-made : goal.invariant-loop-made
invariant-loop-made g l = IsReady l.count (g.S.TreeStore.tree l.store).now
