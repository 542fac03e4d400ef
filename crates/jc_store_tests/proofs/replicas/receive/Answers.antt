use Rattle.std.proofs.Common.{rules}
use Rattle.jc_store_tests.proofs.HandedLemmas.{of_one}
use Rattle.jc_store_tests.proofs.replicas.receive.Goals as goal

pub recv-requires-clause-own : goal.recv-requires-clause-own
recv-requires-clause-own g c = of_one c.sent-offered.result.now _ c.are_of.result c.are_of.ensures (search rules)
