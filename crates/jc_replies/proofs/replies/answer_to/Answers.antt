use Rattle.std.proofs.Common.{◌≡◌, Option, MatchOption, subst}
use Rattle.std.proofs.lemmas.Result.{IfOk-weaker}
use Rattle.jc_session.specs.declared.replies.Reply.{Reply as AnyReply}
use Rattle.jc_session.specs.AnswerOf.{GivesReply}
use Rattle.jc_session.specs.Requests as Q
use Rattle.jc_session.specs.Views.{request_view}
use Rattle.jc_session.proofs.AnswerTextLemmas.{all_named_after, named_reply}
use Rattle.jc_replies.specs.AnswerOf.{GivesServed}
use Rattle.jc_replies.proofs.HereLemmas.{here, given_after, gives_served, as_some}
use Rattle.jc_replies.proofs.replies.answer_to.Goals as goal

pub answer_of-requires : goal.answer_of-requires
answer_of-requires c =
    let d = c.args.debugger.now in
    let q = request_view c.args.request in
    let e = c.reply_to.new.debugger in
    let answer = c.in-Some.reply in
    let g : GivesReply d q e answer = subst (λ (o : Option AnyReply). MatchOption o (q ≡ Q.quit) (λ reply. GivesReply d q e reply)) c.in-Some.is c.in_ok-reply.ensures in
    record {
      all = all_named_after d e q answer c.requires.all g;
      given = given_after d e q answer c.args.given.now g c.requires.given;
      stuck = named_reply d e q answer c.requires.all g;
      here = here d e q answer g;
    }

pub returns-in-Some : goal.returns-in-Some
returns-in-Some c =
    let d = c.args.debugger.now in
    let q = request_view c.args.request in
    let e = c.reply_to.new.debugger in
    let g : GivesReply d q e c.in-Some.reply = subst (λ (o : Option AnyReply). MatchOption o (q ≡ Q.quit) (λ reply. GivesReply d q e reply)) c.in-Some.is c.in_ok-reply.ensures in
    as_some c.answer_of.result c.map.result (λ answer. MatchOption answer (q ≡ Q.quit) (λ text. GivesServed c.args.given.now d q e text.items)) c.map.ensures.cases
    (IfOk-weaker c.answer_of.result _ _ (λ answer h. gives_served d e q c.in-Some.reply c.args.given.now c.event_text-text.result.now answer.items c.requires.all g c.event_text-text.ensures h) c.answer_of.ensures)
