use Rattle.jc_lock.specs.Shows.{IsPassOf}
use Rattle.jc_lock_tests.proofs.tests.counter.add_all.Given as goal

abbrev pub invariant-loop-made : goal.invariant-loop-made
invariant-loop-made g l = IsPassOf l.lock l.pass
