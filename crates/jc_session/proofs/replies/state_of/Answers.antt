use Rattle.jc_session.proofs.AnswerOfLemmas.{reply_no_state, reply_state_of}
use Rattle.jc_session.proofs.replies.state_of.Goals as goal

pub returns-in-Some : goal.returns-in-Some
returns-in-Some c = reply_state_of c.args.debugger.now c.net.result.now c.names.result.now c.args.name.now c.in-Some.p c.net.ensures.net c.names.ensures.names c.net.ensures.is_at c.names.ensures.each c.in-Some.ensures.some

pub returns-in-None : goal.returns-in-None
returns-in-None c = reply_no_state c.args.debugger.now c.net.result.now c.names.result.now c.args.name.now c.net.ensures.net c.names.ensures.names c.in-None.ensures.none
