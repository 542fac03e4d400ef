use Rattle.std.proofs.Common.{◌<◌, ◌≤◌, length, take, refl, get_or, arith}
use Rattle.std.proofs.lemmas.Result.{IfOk-weaker}
use Rattle.jc_rules.specs.declared.operation.Event.{Event}
use Rattle.jc_rules.specs.declared.operation.Event.TheVariants.{Exec}
use Rattle.jc_printer.specs.Canon.{canon_event, quoted}
use Rattle.jc_replies.specs.ReplyTexts.{event_texts}
use Rattle.jc_replies.proofs.ShownLemmas.{more_items, all_items}
use Rattle.jc_replies.proofs.shown.events_answer.Goals as goal

pub loop-event-preserved : goal.loop-event-preserved
loop-event-preserved c =
    let names = c.args.names.now in
    let events = c.args.events.now in
    let i = c.loop-event.event-index in
    let lt : i < length events = omega arith in
    more_items (λ (e : Event). quoted (canon_event names e)) events i (Exec 0) c.push_event.new.list (quoted (canon_event names (get_or events i (Exec 0)))) lt refl
    (c.in_ok-push_event.ensures (event_texts names (take i events)) c.loop-event.invariant)

pub returns : goal.returns
returns c =
    let names = c.args.names.now in
    let events = c.args.events.now in
    let enough : length events ≤ c.loop-event.event-index = omega arith in
    IfOk-weaker c.end.result _ _ (λ text h. h (event_texts names events) (all_items (λ (e : Event). quoted (canon_event names e)) events c.loop-event.event-index c.loop-event.list enough c.loop-event.invariant)) c.end.ensures
