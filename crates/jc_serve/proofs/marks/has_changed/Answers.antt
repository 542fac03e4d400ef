use Rattle.std.proofs.Common.{sym, ◌∙◌}
use Rattle.std.proofs.lemmas.Result.{IfOk-weaker}
use Rattle.jc_serve.proofs.MarksLemmas.{change_named}
use Rattle.jc_serve.proofs.marks.has_changed.Goals as goal

pub changes_at-requires-clause-made : goal.changes_at-requires-clause-made
changes_at-requires-clause-made c = let l = c.last_event-event.ensures.led in (l.rows, l.step)

pub changes_at-requires-clause-last : goal.changes_at-requires-clause-last
changes_at-requires-clause-last c = c.last_event-event.ensures.led.last

pub returns : goal.returns
returns c =
    IfOk-weaker c.changes_at.result _ _ (λ t h.
    change_named c.args.aside.now c.args.here.now c.last_event-event.result c.args.replica c.args.cursor.now t c.last_event-event.ensures.trail c.last_event-event.ensures.led (sym c.replica.ensures ∙ c.if-replica.false) h) c.changes_at.ensures
