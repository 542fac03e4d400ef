use Rattle.std.proofs.Common.{length, refl}
use Rattle.jc_session.proofs.AnswerOfLemmas.{went_back, back_past, reply_back}
use Rattle.jc_session.proofs.replies.back.Goals as goal

pub returns-then-back : goal.returns-then-back
returns-then-back c =
    let d = c.args.debugger.now in
    reply_back d c.back.new.self c.args.n c.position.result (went_back (length d.traces) c.args.n c.if-back.ensures.start) (c.if-back.ensures.back refl) c.position.ensures.position

pub returns-else-back : goal.returns-else-back
returns-else-back c = back_past c.args.debugger.now c.back.new.self c.args.n (c.if-back.ensures.start.0 refl) (c.if-back.ensures.kept refl)
