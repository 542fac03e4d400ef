use Rattle.jc_debug.specs.declared.breaks.Break.TheVariants as Kind
use Rattle.jc_session.specs.Answers as A
use Rattle.jc_session.specs.Requests as Q
use Rattle.jc_session.proofs.AnswerOfLemmas.{known_here, gives_set, reply_no_rule}
use Rattle.jc_session.proofs.replies.break_rule.Goals as goal

pub returns-in-Some : goal.returns-in-Some
returns-in-Some c =
    let d = c.args.debugger.now in
    let some = c.in-Some.ensures.some in
    let known = known_here d c.net.result.now c.version.result c.in-Some.rule c.version.ensures c.net.ensures.is_at some.0 in
    gives_set d c.break_rule.new.self (Kind.Rule c.in-Some.rule) (Q.break_rule c.args.name.now) c.break_rule.result c.set.result c.set.ensures c.break_rule.ensures (λ B reply sets. A.breaks_rule c.in-Some.rule known some.1 sets)

pub returns-in-None : goal.returns-in-None
returns-in-None c = reply_no_rule c.args.debugger.now c.net.result.now c.version.result c.args.name.now c.version.ensures c.net.ensures.is_at c.in-None.ensures.none
