use Rattle.std.proofs.Common.{rules, ◌≡◌, sym, subst, take}
use Rattle.jc_replica.specs.Operations.{AreInOrder}
use Rattle.jc_replica.proofs.AnswersLemmas.{ready_now}
use Rattle.jc_replica.proofs.SendLemmas.{front_in_order}
use Rattle.jc_replica.proofs.replica.Replica.sent.Goals as goal

pub returns-clause-order : goal.returns-clause-order
returns-clause-order g c =
    let i = c.self.inside in
    let all : c.deref.result.now ≡ i.queue.items = search rules in
    subst (λ xs. AreInOrder (take i.sent xs)) (sym all) (front_in_order i.sent i.queue.items (ready_now c.self.invariant).in_order)
