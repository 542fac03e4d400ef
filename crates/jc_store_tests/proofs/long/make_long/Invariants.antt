use Rattle.jc_store_tests.specs.Ready.{IsReady}
use Rattle.jc_store_tests.proofs.long.make_long.Given as goal

abbrev pub invariant-loop-count : goal.invariant-loop-count
invariant-loop-count g l = IsReady l.count (g.S.TreeStore.tree l.store).now
