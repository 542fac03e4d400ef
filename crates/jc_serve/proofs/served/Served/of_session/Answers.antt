use Rattle.std.proofs.Common.{◌≡◌, true, false, MatchOption, sym, subst, ◌∙◌, arith}
use Rattle.jc_session.specs.Requests as Q
use Rattle.jc_session.specs.Views.{request_view}
use Rattle.jc_replies.specs.AnswerOf.{GivesServed}
use Rattle.jc_serve.proofs.SessionsLemmas.{with_event, without_event, shares}
use Rattle.jc_serve.proofs.served.Served.of_session.Goals as goal

pub follow-requires : goal.follow-requires
follow-requires c =
    let x = c.args.self.now in
    let q = request_view c.args.request in
    let d = c.answer_to.new.debugger in
    let given : GivesServed c.as_slice-given.result.now x.here q d c.in-Some.answer.items =
    subst (λ o. MatchOption o (q ≡ Q.quit) (λ t. GivesServed c.as_slice-given.result.now x.here q d t.items)) c.in-Some.is c.in_ok-answer.ensures in
    let g = subst (λ es. GivesServed es x.here q d c.in-Some.answer.items) c.as_slice-given.ensures.value given in
    let made = c.has_made.ensures.0 c.if-has_made.true in
    let at = c.position-now.ensures.position in
    let lt = made.1 in
    shares x q d c.in-Some.answer.items c.position-was.ensures.trail c.position-now.ensures.trail c.requires.other g c.position-was.result c.position-was.ensures.position made.0 (omega (arith, lt, at)) c.requires.held

pub returns-then-has_made : goal.returns-then-has_made
returns-then-has_made c text =
    let x = c.args.self.now in
    let q = request_view c.args.request in
    let d = c.answer_to.new.debugger in
    let given : GivesServed c.as_slice-given.result.now x.here q d c.in-Some.answer.items =
    subst (λ o. MatchOption o (q ≡ Q.quit) (λ t. GivesServed c.as_slice-given.result.now x.here q d t.items)) c.in-Some.is c.in_ok-answer.ensures in
    let g = subst (λ es. GivesServed es x.here q d c.in-Some.answer.items) c.as_slice-given.ensures.value given in
    let made = c.has_made.ensures.0 c.if-has_made.true in
    let at = c.position-now.ensures.position in
    let lt = made.1 in
    with_event x q d c.in-Some.answer.items c.position-was.ensures.trail c.position-now.ensures.trail c.requires.other g c.follow.new.self c.position-was.result c.position-was.ensures.position made.0 (omega (arith, lt, at)) c.follow.ensures.rest c.in_ok-follow.ensures.followed text

pub returns : goal.returns
returns c text =
    let x = c.args.self.now in
    let q = request_view c.args.request in
    let d = c.answer_to.new.debugger in
    let given : GivesServed c.as_slice-given.result.now x.here q d c.in-Some.answer.items =
    subst (λ o. MatchOption o (q ≡ Q.quit) (λ t. GivesServed c.as_slice-given.result.now x.here q d t.items)) c.in-Some.is c.in_ok-answer.ensures in
    let g = subst (λ es. GivesServed es x.here q d c.in-Some.answer.items) c.as_slice-given.ensures.value given in
    without_event x q d c.in-Some.answer.items c.position-was.ensures.trail c.position-now.ensures.trail c.requires.other g
    (λ made.
    let was = c.position-was.ensures.position in
    let now = c.position-now.ensures.position in
    let lt = made.1 in
    let no : true ≡ false = sym (c.has_made.ensures.1 (made.0, omega (arith, was, now, lt))) ∙ c.if-has_made.false in absurd cc) text
