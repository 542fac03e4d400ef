use Rattle.std.proofs.Common.{Option, sym, subst}
use Rattle.jc_rules.specs.declared.id.Id.{Id}
use Rattle.jc_replica.specs.Answers.{AnswersEvent}
use Rattle.jc_replica.specs.Received.{receiving_event}
use Rattle.jc_network.proofs.stepping.read_from.Goals as goal

pub returns-in-None : goal.returns-in-None
returns-in-None c = λ q. subst (λ (o : Option Id). AnswersEvent (receiving_event q o c.args.replica.now.number) c.args.offered.now c.args.replica.now c.recv.new.self c.recv.result) (sym c.in-None.is) (c.recv.ensures q)

pub returns-in-Some : goal.returns-in-Some
returns-in-Some c = λ q. subst (λ (o : Option Id). AnswersEvent (receiving_event q o c.args.replica.now.number) c.args.offered.now c.args.replica.now c.recv_one.new.self c.recv_one.result) (sym c.in-Some.is) (c.recv_one.ensures q)
