use Rattle.std.proofs.Common.{refl}
use Rattle.jc_session.proofs.AnswerOfLemmas.{reply_unbreak, reply_no_break}
use Rattle.jc_session.proofs.replies.unbreak.Goals as goal

pub returns-then-unbreak : goal.returns-then-unbreak
returns-then-unbreak c = reply_unbreak c.args.debugger.now c.unbreak.new.self c.args.k (c.if-unbreak.ensures.cleared refl)

pub returns-else-unbreak : goal.returns-else-unbreak
returns-else-unbreak c =
    let none = c.if-unbreak.ensures.none refl in
    reply_no_break c.args.debugger.now c.unbreak.new.self c.args.k none.0 none.1
