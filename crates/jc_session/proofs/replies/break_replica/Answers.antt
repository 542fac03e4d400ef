use Rattle.std.proofs.lemmas.Option.{slice_get_within}
use Rattle.jc_debug.specs.declared.breaks.Break.TheVariants as Kind
use Rattle.jc_session.specs.Answers as A
use Rattle.jc_session.specs.Requests as Q
use Rattle.jc_session.proofs.AnswerOfLemmas.{named_in, gives_set, reply_no_replica}
use Rattle.jc_session.proofs.replies.break_replica.Goals as goal

pub returns-in-Some : goal.returns-in-Some
returns-in-Some c =
    let d = c.args.debugger.now in
    let named = named_in d c.net.result.now c.names.result.now c.args.name.now c.in-Some.p c.net.ensures.net c.names.ensures.names c.in-Some.ensures.some in
    gives_set d c.break_replica.new.self (Kind.Replica c.in-Some.p) (Q.break_replica c.args.name.now) c.break_replica.result c.set.result c.set.ensures (c.break_replica.ensures.set (slice_get_within d.net.names c.in-Some.p c.args.name.now named)) (λ B reply sets. A.breaks_replica c.in-Some.p named sets)

pub returns-in-None : goal.returns-in-None
returns-in-None c = reply_no_replica c.args.debugger.now c.net.result.now c.names.result.now c.args.name.now c.net.ensures.net c.names.ensures.names c.in-None.ensures.none
