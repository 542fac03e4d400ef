use Rattle.std.proofs.Common.{rules}
use Rattle.jc_store_tests.proofs.HandedLemmas.{of_one}
use Rattle.jc_store_tests.proofs.replicas.take.Goals as goal

pub recv_one-requires-clause-own : goal.recv_one-requires-clause-own
recv_one-requires-clause-own g c = of_one c.sent-offered.result.now _ c.are_of.result c.are_of.ensures (search rules)
