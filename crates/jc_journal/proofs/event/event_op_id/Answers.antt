use Rattle.std.proofs.Common.{Some, None, ◌∙◌}
use Rattle.jc_journal.proofs.EventEffectsLemmas.{kept_id}
use Rattle.jc_journal.proofs.LastStepPartsLemmas.{parts_of_last}
use Rattle.jc_journal.proofs.event.event_op_id.Goals as goal

-- an event without an operation
pub returns-in_err-op : goal.returns-in_err-op
returns-in_err-op c = λ old event rows before made.
    let step = c.last_step.result in
    let parts = parts_of_last c.args.net.now.history old event rows step c.last_step.ensures.some c.last_step.ensures.none before made in
    c.from_residual.ensures ∙ kept_id event made.step.before made.step.after step None parts c.in_err-op.ensures

-- one with an operation
pub returns : goal.returns
returns c = λ old event rows before made.
    let step = c.last_step.result in
    let parts = parts_of_last c.args.net.now.history old event rows step c.last_step.ensures.some c.last_step.ensures.none before made in
    kept_id event made.step.before made.step.after step (Some c.in_ok-op.op.now) parts c.in_ok-op.ensures
