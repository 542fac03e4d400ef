use Rattle.jc_session.specs.Answers.{strange}
use Rattle.jc_session.proofs.replies.resolved.Goals as goal

pub returns-in-Err : goal.returns-in-Err
returns-in-Err c = λ version text is. strange c.args.named.now c.in-Err.unknown.place is c.in-Err.ensures.fault
