use Rattle.jc_session.proofs.AnswerOfLemmas.{reply_run, run_past}
use Rattle.jc_session.proofs.replies.run.Goals as goal

pub returns-in-Ok : goal.returns-in-Ok
returns-in-Ok c =
    let w = c.in-Ok in
    reply_run c.args.debugger.now c.run.new.self w.end c.position-at.result w.ensures.end w.ensures.ok c.position-at.ensures.position

pub returns-in-Err-Refused : goal.returns-in-Err-Refused
returns-in-Err-Refused c =
    let w = c.in-Err-Refused in
    run_past c.args.debugger.now c.run.new.self w.field-0 w.refusal w.field-0-is w.ensures.end w.ensures.err
