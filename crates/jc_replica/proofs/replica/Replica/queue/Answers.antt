use Rattle.std.proofs.Common.{sym, ◌∙◌, ap, subst}
use Rattle.jc_replica.specs.Operations.{AreInOrder}
use Rattle.jc_replica.specs.ReplicaHistory.{ReplicaHistory}
use Rattle.jc_replica.proofs.AnswersLemmas.{ready_now}
use Rattle.jc_replica.proofs.replica.Replica.queue.Goals as goal

pub returns-clause-queue : goal.returns-clause-queue
returns-clause-queue g c = c.as_slice.ensures.value ∙ ap (λ (p : ReplicaHistory). p.history.now.queue) c.self.view_is

pub returns-clause-order : goal.returns-clause-order
returns-clause-order g c = subst AreInOrder (sym c.as_slice.ensures.value) (ready_now c.self.invariant).in_order
