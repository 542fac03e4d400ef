use Rattle.std.proofs.Common.{Some, None}
use Rattle.jc_serve.proofs.MarksLemmas.{same_ids, found_steps, made_named, none_made_named}
use Rattle.jc_serve.proofs.marks.has_made.Goals as goal

pub returns-in-Some : goal.returns-in-Some
returns-in-Some c =
    let aside = c.args.aside.now in
    let here = c.args.here.now in
    let event = c.last_event-event.result in
    let led = c.last_event-event.ensures.led in
    let made = c.in-Some.made in
    let found = found_steps aside here event (Some made) c.net.result.now c.net.ensures.net led.last c.in-Some.ensures in
    made_named aside here event made c.args.id c.eq.result c.last_event-event.ensures.trail led found (same_ids made c.args.id c.eq.result c.eq.ensures)

pub returns-in-None : goal.returns-in-None
returns-in-None c =
    let aside = c.args.aside.now in
    let here = c.args.here.now in
    let event = c.last_event-event.result in
    let led = c.last_event-event.ensures.led in
    let found = found_steps aside here event None c.net.result.now c.net.ensures.net led.last c.in-None.ensures in
    none_made_named aside here event c.args.id c.last_event-event.ensures.trail led found
