use Rattle.jc_runner.specs.Benches.{IsPassFor}
use Rattle.jc_network_tests.proofs.benches.fills.Given as goal

abbrev pub invariant-loop-number : goal.invariant-loop-number
invariant-loop-number g l = IsPassFor l.bench 1 l.pass
