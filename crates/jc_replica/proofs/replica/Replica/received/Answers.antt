use Rattle.std.proofs.Common.{◌∙◌, ap}
use Rattle.jc_replica.specs.ReplicaHistory.{ReplicaHistory}
use Rattle.jc_replica.proofs.replica.Replica.received.Goals as goal

pub returns-clause-received : goal.returns-clause-received
returns-clause-received g c = c.as_slice.ensures.ops ∙ ap (λ (p : ReplicaHistory). p.history.now.recv) c.self.view_is
