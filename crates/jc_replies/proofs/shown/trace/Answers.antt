use Rattle.std.proofs.Common.{◌-◌, get_or, refl}
use Rattle.std.proofs.lemmas.Result.{IfOk-weaker}
use Rattle.jc_rules.specs.declared.operation.Event.TheVariants.{Exec}
use Rattle.jc_rules.specs.Runs.{rows_of_all}
use Rattle.jc_session.proofs.AnswerTextLemmas.{event_at, trace_named}
use Rattle.jc_replies.proofs.ShownLemmas.{start_told, trace_told}
use Rattle.jc_replies.proofs.shown.trace.Goals as goal

pub returns-in_default : goal.returns-in_default
returns-in_default c =
    IfOk-weaker c.flag.result _ _ (λ answer h. start_told c.args.debugger.now answer.items (c.in_default.ensures.start.0 refl) h) c.flag.ensures

pub traced-requires : goal.traced-requires
traced-requires c =
    let d = c.args.debugger.now in
    let t = rows_of_all c.in-Some.runs.now in
    let es = c.schedule.result.now in
    let n = c.position-n.result in
    trace_named d t c.in-Some.ensures.trace c.net.result.now c.names.result.now (get_or es (n - 1) (Exec 0)) c.requires c.net.ensures.net c.names.ensures.names (event_at d t c.in-Some.ensures.trace es n (Exec 0) c.schedule.ensures c.position-n.ensures.position)

pub returns : goal.returns
returns c =
    let d = c.args.debugger.now in
    let t = rows_of_all c.in-Some.runs.now in
    let es = c.schedule.result.now in
    let n = c.position-n.result in
    IfOk-weaker c.traced.result _ _ (λ answer due.
    trace_told d t c.net.result.now c.names.result.now n (get_or es (n - 1) (Exec 0)) answer.items c.net.ensures.net c.names.ensures.names c.position-n.ensures.position c.in-Some.ensures.trace (event_at d t c.in-Some.ensures.trace es n (Exec 0) c.schedule.ensures c.position-n.ensures.position) due) c.traced.ensures
