use Rattle.std.proofs.Common.{sym}
use Rattle.jc_replica.proofs.ReceivedUnionLemmas.{standing}
use Rattle.jc_replica.proofs.received.find.Goals as goal

pub returns-in-Ok : goal.returns-in-Ok
returns-in-Ok c = standing c.args.id c.args.ops.now c.in-Ok.place c.index-ops-place.result c.in-Ok.ensures c.index-ops-place.is

pub returns-in-Err : goal.returns-in-Err
returns-in-Err c = sym c.in-Err.ensures.absent
