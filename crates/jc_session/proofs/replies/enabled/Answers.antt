use Rattle.jc_session.proofs.AnswerOfLemmas.{reply_enabled}
use Rattle.jc_session.proofs.replies.enabled.Goals as goal

pub returns : goal.returns
returns c = reply_enabled c.args.debugger.now c.net.result.now c.step_or_stuck.ensures c.net.ensures.net c.net.ensures.is_at c.steps.ensures.reached
