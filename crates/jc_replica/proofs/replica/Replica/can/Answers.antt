use Rattle.jc_replica.proofs.CanLemmas.{cannot_occur}
use Rattle.jc_replica.proofs.replica.Replica.can.Goals as goal

pub returns-in-Err : goal.returns-in-Err
returns-in-Err g c = cannot_occur c.args.event.now c.args.self.now c.in-Err.fault c.in-Err.ensures.err c.cannot.result c.cannot.ensures
