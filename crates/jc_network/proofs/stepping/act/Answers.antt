use Rattle.std.proofs.Common.{[], Some, None, slice_index_or, refl, subst}
use Rattle.jc_rules.specs.declared.operation.Event.TheVariants as V
use Rattle.jc_replica.specs.Answers.{AnswersEvent}
use Rattle.jc_network.specs.Steps.{HasReplicas}
use Rattle.jc_network.proofs.StepsLemmas.{indexed, acts_alone, acts_received}
use Rattle.jc_network.proofs.stepping.act.Goals as goal

pub returns-in-Exec : goal.returns-in-Exec
returns-in-Exec c =
    let xs = c.args.replicas.now in
    let p = c.in-Exec.p in
    let a = slice_index_or xs c.from.result c.index-replicas-from.result in
    let there = indexed xs c.from.result p c.index-replicas-from.result c.from.ensures (subst (λ e. HasReplicas e xs) c.in-Exec.is c.requires.there).0 c.index-replicas-from.is in
    acts_alone xs c.args.event.now (V.Exec p) c.from.result p a c.exec.new.self c.exec.result c.in-Exec.is refl refl c.from.ensures there (subst (λ n. AnswersEvent (V.Exec n) [] a c.exec.new.self c.exec.result) (c.requires.numbered p a there) c.exec.ensures)

pub returns-in-Send : goal.returns-in-Send
returns-in-Send c =
    let xs = c.args.replicas.now in
    let p = c.in-Send.p in
    let i = c.from-in-Send.result in
    let r = c.index-replicas-from-in-Send.result in
    let a = slice_index_or xs i r in
    let there = indexed xs i p r c.from-in-Send.ensures (subst (λ e. HasReplicas e xs) c.in-Send.is c.requires.there).0 c.index-replicas-from-in-Send.is in
    acts_alone xs c.args.event.now (V.Send p) i p a c.send.new.self c.send.result c.in-Send.is refl refl c.from-in-Send.ensures there (subst (λ n. AnswersEvent (V.Send n) [] a c.send.new.self c.send.result) (c.requires.numbered p a there) c.send.ensures)

pub returns-in-Apply : goal.returns-in-Apply
returns-in-Apply c =
    let xs = c.args.replicas.now in
    let p = c.in-Apply.p in
    let i = c.from-in-Apply.result in
    let r = c.index-replicas-from-in-Apply.result in
    let a = slice_index_or xs i r in
    let there = indexed xs i p r c.from-in-Apply.ensures (subst (λ e. HasReplicas e xs) c.in-Apply.is c.requires.there).0 c.index-replicas-from-in-Apply.is in
    acts_alone xs c.args.event.now (V.Apply p c.in-Apply.id) i p a c.apply.new.self c.apply.result c.in-Apply.is refl refl c.from-in-Apply.ensures there (subst (λ n. AnswersEvent (V.Apply n c.in-Apply.id) [] a c.apply.new.self c.apply.result) (c.requires.numbered p a there) c.apply.ensures)

pub returns-in-Done : goal.returns-in-Done
returns-in-Done c =
    let xs = c.args.replicas.now in
    let p = c.in-Done.p in
    let i = c.from-in-Done.result in
    let r = c.index-replicas-from-in-Done.result in
    let a = slice_index_or xs i r in
    let there = indexed xs i p r c.from-in-Done.ensures (subst (λ e. HasReplicas e xs) c.in-Done.is c.requires.there).0 c.index-replicas-from-in-Done.is in
    acts_alone xs c.args.event.now (V.Done p) i p a c.done.new.self c.done.result c.in-Done.is refl refl c.from-in-Done.ensures there (subst (λ n. AnswersEvent (V.Done n) [] a c.done.new.self c.done.result) (c.requires.numbered p a there) c.done.ensures)

pub returns-in-Recv : goal.returns-in-Recv
returns-in-Recv c =
    let xs = c.args.replicas.now in
    let both = subst (λ e. HasReplicas e xs) c.in-Recv.is c.requires.there in
    acts_received xs _ c.args.event.now c.in-Recv.p c.in-Recv.q None c.receive.result c.in-Recv.is (both.1 c.in-Recv.q refl) c.receive.ensures

pub returns-in-Take : goal.returns-in-Take
returns-in-Take c =
    let xs = c.args.replicas.now in
    let both = subst (λ e. HasReplicas e xs) c.in-Take.is c.requires.there in
    acts_received xs _ c.args.event.now c.in-Take.p c.in-Take.q (Some c.in-Take.id) c.receive-in-Take.result c.in-Take.is (both.1 c.in-Take.q refl) c.receive-in-Take.ensures

pub receive-requires-clause-sender : goal.receive-requires-clause-sender
receive-requires-clause-sender c =
    let both = subst (λ e. HasReplicas e c.args.replicas.now) c.in-Recv.is c.requires.there in
    both.1 c.in-Recv.q refl

pub receive-requires-in-Take-clause-sender : goal.receive-requires-in-Take-clause-sender
receive-requires-in-Take-clause-sender c =
    let both = subst (λ e. HasReplicas e c.args.replicas.now) c.in-Take.is c.requires.there in
    both.1 c.in-Take.q refl
