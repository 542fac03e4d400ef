use Rattle.std.proofs.Common.{ap, sym, subst}
use Rattle.jc_session.specs.declared.replies.Reply.TheVariants as R
use Rattle.jc_session.specs.AnswerOf.{GivesReply}
use Rattle.jc_session.specs.Requests.{Request}
use Rattle.jc_session.specs.Views.{request_view}
use Rattle.jc_session.proofs.AnswerOfLemmas.{reply_schedule, reply_position}
use Rattle.jc_session.proofs.replies.reply_to.Goals as goal

pub returns-in-Schedule : goal.returns-in-Schedule
returns-in-Schedule c =
    let d = c.args.debugger.now in
    subst (λ (q : Request). GivesReply d q d R.Schedule) (sym (ap request_view c.in-Schedule.is)) (reply_schedule d)

pub returns-in-Position : goal.returns-in-Position
returns-in-Position c =
    let d = c.args.debugger.now in
    subst (λ (q : Request). GivesReply d q d R.Position) (sym (ap request_view c.in-Position.is)) (reply_position d)
