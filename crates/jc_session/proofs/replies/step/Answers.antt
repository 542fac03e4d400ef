use Rattle.jc_session.proofs.AnswerOfLemmas.{steps_to, reply_moved, reply_past, reply_stuck}
use Rattle.jc_session.proofs.replies.step.Goals as goal

pub returns-in-Ok : goal.returns-in-Ok
returns-in-Ok c =
    let d = c.args.debugger.now in
    reply_moved d c.step.new.self c.position.result c.in-Ok.field-0 (steps_to d c.args.n) c.in-Ok.ensures.end c.position.ensures.trail c.in-Ok.ensures.ok c.position.ensures.position

pub returns-in-Err-Refused : goal.returns-in-Err-Refused
returns-in-Err-Refused c =
    let d = c.args.debugger.now in
    let w = c.in-Err-Refused in
    reply_past d c.step.new.self w.refusal w.field-0 (steps_to d c.args.n) w.field-0-is w.ensures.end w.ensures.err

pub returns-in-Err-Stuck : goal.returns-in-Err-Stuck
returns-in-Err-Stuck c =
    let d = c.args.debugger.now in
    let w = c.in-Err-Stuck in
    reply_stuck d c.step.new.self c.position-at.result w.field-0 w.stuck (steps_to d c.args.n) w.field-0-is w.ensures.end w.ensures.err c.position-at.ensures.position
