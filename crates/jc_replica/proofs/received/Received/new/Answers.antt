use Rattle.jc_replica.proofs.ReceivedLemmas.{none_whole}
use Rattle.jc_replica.proofs.received.Received.new.Goals as goal

pub invariant_of-result : goal.invariant_of-result
invariant_of-result c = rw (c.new.ensures, c.new-2.ensures) none_whole
