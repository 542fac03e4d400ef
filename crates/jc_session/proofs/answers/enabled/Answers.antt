use Rattle.std.proofs.Common.{◌≡◌, List, length, ap, sym, subst, ◌∙◌, string_bytes}
use Rattle.std.proofs.lemmas.Result.{IfOk-weaker}
use Rattle.std.specs.List.{All}
use Rattle.jc_rules.specs.declared.operation.Event.{Event}
use Rattle.jc_printer.specs.Canon.{AreNamed}
use Rattle.jc_session.specs.Texts.{event_lines}
use Rattle.jc_session.proofs.EventNamesLemmas.{enabled_named}
use Rattle.jc_session.proofs.AnswerTextLemmas.{enabled_text}
use Rattle.jc_session.proofs.answers.enabled.Goals as goal

pub event_lines-requires : goal.event_lines-requires
event_lines-requires c =
    let size : length c.names.result.now ≡ length c.args.net.now.history.now.states = ap length c.names.ensures.names ∙ sym c.names.ensures.each in
    subst (λ (es : List Event). All (λ e. AreNamed e (length c.names.result.now)) es) (sym c.deref.ensures.value)
    (enabled_named c.args.net.now.history.now c.in_ok-events.events.items (length c.names.result.now) size c.steps.ensures.reached c.in_ok-events.ensures)

pub returns : goal.returns
returns c =
    IfOk-weaker c.or_none.result _ _ (λ text h.
    enabled_text c.args.net.now c.names.result.now c.in_ok-events.events.items (string_bytes c.in_ok-text.text) (string_bytes text) c.names.ensures.names c.in_ok-events.ensures (c.in_ok-text.ensures ∙ ap (event_lines c.names.result.now) c.deref.ensures.value) h) c.or_none.ensures
