use Rattle.jc_rules.specs.Runs.{rows_of_all}
use Rattle.jc_session.proofs.AnswerOfLemmas.{reply_trace}
use Rattle.jc_session.proofs.replies.trace.Goals as goal

pub returns : goal.returns
returns c = reply_trace (λ t. rows_of_all t.now) c.args.debugger.now c.trace.result c.trace.ensures.trace c.trace.ensures.start
