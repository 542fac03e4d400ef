use Rattle.std.proofs.Common.{◌≡◌, Option, MatchOption, subst}
use Rattle.jc_session.specs.declared.replies.Reply.{Reply as AnyReply}
use Rattle.jc_session.specs.AnswerOf.{GivesReply}
use Rattle.jc_session.specs.Requests as Q
use Rattle.jc_session.specs.Views.{request_view}
use Rattle.jc_session.proofs.AnswerTextLemmas.{all_named_after, named_reply}
use Rattle.jc_session.proofs.answers.answer_to.Goals as goal

pub text_of-requires-clause-all : goal.text_of-requires-clause-all
text_of-requires-clause-all c =
    let d = c.args.debugger.now in
    let q = request_view c.args.request in
    let e = c.reply_to.new.debugger in
    all_named_after d e q c.in-Some.reply c.requires
    (subst (λ (o : Option AnyReply). MatchOption o (q ≡ Q.quit) (λ reply. GivesReply d q e reply)) c.in-Some.is c.in_ok-reply.ensures)

pub text_of-requires-clause-stuck : goal.text_of-requires-clause-stuck
text_of-requires-clause-stuck c =
    let d = c.args.debugger.now in
    let q = request_view c.args.request in
    let e = c.reply_to.new.debugger in
    named_reply d e q c.in-Some.reply c.requires
    (subst (λ (o : Option AnyReply). MatchOption o (q ≡ Q.quit) (λ reply. GivesReply d q e reply)) c.in-Some.is c.in_ok-reply.ensures)
