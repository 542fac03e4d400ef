use Rattle.std.proofs.Common.{rules, ◌-◌, Err, Ok, sym, ap, ◌∙◌}
use Rattle.std.proofs.lemmas.Result.{err_from_is_err_and}
use Rattle.jc_syntax.specs.declared.token.TokenKind.TheVariants.{Name, Semi}
use Rattle.jc_parser.specs.declared.fault.ScenarioFault.TheVariants.{TooManyEvents}
use Rattle.jc_parser.specs.ReaderState.{has_kind, place}
use Rattle.jc_parser.specs.EventReader.{any_event_at}
use Rattle.jc_parser.specs.ScenarioReader.{events_at}
use Rattle.jc_parser.proofs.LoopsLemmas.{with_front, items_done, items_full, items_fail, items_last, items_next}
use Rattle.jc_parser.proofs.scenarios.events.Goals as goal

pub returns-then-left-eq0 : goal.returns-then-left-eq0
returns-then-left-eq0 c _ =
    c.events.invariant ∙ items_full (has_kind Name) (any_event_at c.args.version) (λ r. TooManyEvents (place r)) c.events.left c.events.cursor (c.events.events.items) c.if-left-eq0.true (sym c.begins.ensures ∙ c.events-test.true) ∙ ap (λ at. Err (TooManyEvents at)) (sym c.place.ensures)

pub returns-in_err-event : goal.returns-in_err-event
returns-in_err-event c =
    let p = err_from_is_err_and c.from_residual.result c.from_residual.ensures.1 in
    rw (p.1, p.2) (λ kept. c.events.invariant ∙ items_fail (has_kind Name) (any_event_at c.args.version) (λ r. TooManyEvents (place r)) c.events.left c.events.cursor (c.events.events.items) c.in_err-event.field-0.0 c.if-left-eq0.false (sym c.begins.ensures ∙ c.events-test.true) (c.in_err-event.ensures kept))

pub returns-then-not-begins : goal.returns-then-not-begins
returns-then-not-begins c =
    c.events.invariant
    ∙ items_last (has_kind Name) (any_event_at c.args.version) (λ r. TooManyEvents (place r)) c.events.left c.events.cursor c.event.new.cursor (c.in_ok-event.event) (c.events.events.items) c.if-left-eq0.false (sym c.begins.ensures ∙ c.events-test.true) c.in_ok-event.ensures (sym c.begins-in-events.ensures ∙ c.if-not-begins.true)
    ∙ ap (λ l. Ok (l, c.event.new.cursor)) (sym (c.in_ok-push.ensures.items))

pub events-preserved : goal.events-preserved
events-preserved c =
    c.events.invariant
    ∙ items_next (has_kind Name) (any_event_at c.args.version) (λ r. TooManyEvents (place r)) c.events.left c.events.cursor c.event.new.cursor c.advance.new.self (c.in_ok-event.event) (c.events.events.items) c.if-left-eq0.false (sym c.begins.ensures ∙ c.events-test.true) c.in_ok-event.ensures (sym c.begins-in-events.ensures ∙ c.if-not-begins.false) (c.advance.ensures (has_kind Semi) (sym c.begins-in-events.ensures ∙ c.if-not-begins.false))
    ∙ ap (λ l. with_front l (events_at c.args.version (c.events.left - 1) c.advance.new.self)) (sym (c.in_ok-push.ensures.items))

pub returns : goal.returns
returns c = c.events.invariant ∙ items_done (has_kind Name) (any_event_at c.args.version) (λ r. TooManyEvents (place r)) c.events.left c.events.cursor (c.events.events.items) (sym c.begins.ensures ∙ c.events-test.false)

pub events-init : goal.events-init
events-init c = search rules
