use Rattle.jc_session.proofs.AnswerOfLemmas.{reply_state}
use Rattle.jc_session.proofs.replies.state.Goals as goal

pub returns : goal.returns
returns c = reply_state c.args.debugger.now c.net.result.now c.net.ensures.net c.net.ensures.is_at
