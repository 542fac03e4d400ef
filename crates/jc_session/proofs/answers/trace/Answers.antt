use Rattle.std.proofs.Common.{◌-◌, get_or, refl, string_bytes}
use Rattle.std.proofs.lemmas.Result.{IfOk-weaker}
use Rattle.jc_rules.specs.declared.operation.Event.TheVariants.{Exec}
use Rattle.jc_rules.specs.Runs.{rows_of_all}
use Rattle.jc_session.proofs.AnswerTextLemmas.{event_at, start_text, trace_text}
use Rattle.jc_session.proofs.answers.trace.Goals as goal

pub returns-in_default : goal.returns-in_default
returns-in_default c = IfOk-weaker c.from_str.result _ _ (λ text h. start_text c.args.debugger.now (string_bytes text) (c.in_default.ensures.start.0 refl) h) c.from_str.ensures.ok

pub returns : goal.returns
returns c =
    let d = c.args.debugger.now in
    let t = rows_of_all c.in-Some.runs.now in
    let es = c.schedule.result.now in
    let n = c.position-n.result in
    IfOk-weaker c.block_text.result _ _ (λ text due.
    trace_text d t c.net.result.now c.names.result.now n (get_or es (n - 1) (Exec 0)) (string_bytes text) c.net.ensures.net c.names.ensures.names c.position-n.ensures.position c.in-Some.ensures.trace (event_at d t c.in-Some.ensures.trace es n (Exec 0) c.schedule.ensures c.position-n.ensures.position) due) c.block_text.ensures
