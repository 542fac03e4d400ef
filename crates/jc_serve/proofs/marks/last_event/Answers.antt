use Rattle.jc_serve.proofs.MarksLemmas.{led_read}
use Rattle.jc_serve.proofs.marks.last_event.Goals as goal

pub returns-clause-led : goal.returns-clause-led
returns-clause-led c =
    led_read c.args.aside.now c.args.here.now c.schedule.result.now c.position-2.result _ c.position-2.ensures.trail c.position.ensures.trail c.requires c.position-2.ensures.position c.schedule.ensures
