use Rattle.std.proofs.Common.{inl, inr}
use Rattle.jc_session.proofs.AnswerOfLemmas.{reply_no_compare, reply_compare}
use Rattle.jc_session.proofs.replies.comparison.Goals as goal

pub returns-in_default : goal.returns-in_default
returns-in_default c = reply_no_compare c.args.debugger.now c.net-net.result.now c.names-names.result.now c.args.name.now c.args.other.now c.net-net.ensures.net c.names-names.ensures.names (inl c.in_default.ensures.none)

pub returns-in_default-number_of : goal.returns-in_default-number_of
returns-in_default-number_of c = reply_no_compare c.args.debugger.now c.net-net.result.now c.names-names.result.now c.args.name.now c.args.other.now c.net-net.ensures.net c.names-names.ensures.names (inr c.in_default-number_of.ensures.none)

pub returns-in-Ok : goal.returns-in-Ok
returns-in-Ok c =
    reply_compare c.args.debugger.now c.net-net.result.now c.names-names.result.now c.args.name.now c.args.other.now c.in-Some.p c.in-Some-number_of.q c.in-Ok.found c.net-net.ensures.net c.names-names.ensures.names c.net-net.ensures.is_at c.in-Some.ensures.some c.in-Some-number_of.ensures.some c.in-Ok.ensures.compared
