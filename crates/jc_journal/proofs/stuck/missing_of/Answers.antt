use Rattle.std.proofs.Common.{sym, ◌∙◌}
use Rattle.std.proofs.lemmas.Result.{IfOk-weaker}
use Rattle.jc_journal.proofs.StuckLineLemmas.{missing_found, missing_none}
use Rattle.jc_journal.proofs.stuck.missing_of.Goals as goal

pub returns-in-Some-find : goal.returns-in-Some-find
returns-in-Some-find c =
    IfOk-weaker c.made_missing.result _ _
    (λ ids m. missing_found c.args.net.now.history.now.states c.steps-steps.ensures.reached c.args.p c.in-Some.replica.now c.args.id c.in-Some-find.op.now c.received.result.now c.ops.result.now ids.items c.in-Some.ensures.some c.in-Some-find.ensures c.received.ensures.received c.ops.ensures m)
    c.made_missing.ensures

pub returns-in-None : goal.returns-in-None
returns-in-None c = c.new-in-None.ensures.items ∙ sym (missing_none c.args.net.now.history.now.states c.args.p c.in-Some.replica.now c.args.id c.received.result.now c.in-Some.ensures.some c.in-None.ensures c.received.ensures.received)
