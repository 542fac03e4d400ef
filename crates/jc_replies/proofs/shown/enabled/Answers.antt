use Rattle.std.proofs.Common.{◌≡◌, List, length, ap, sym, subst, ◌∙◌}
use Rattle.std.proofs.lemmas.Result.{IfOk-weaker}
use Rattle.std.specs.List.{All}
use Rattle.jc_rules.specs.declared.operation.Event.{Event}
use Rattle.jc_printer.specs.Canon.{AreNamed}
use Rattle.jc_session.proofs.EventNamesLemmas.{enabled_named}
use Rattle.jc_replies.proofs.ShownLemmas.{enabled_told}
use Rattle.jc_replies.proofs.shown.enabled.Goals as goal

pub events_answer-requires : goal.events_answer-requires
events_answer-requires c =
    let size : length c.names.result.now ≡ length c.args.net.now.history.now.states = ap length c.names.ensures.names ∙ sym c.names.ensures.each in
    subst (λ (es : List Event). All (λ e. AreNamed e (length c.names.result.now)) es) (sym c.deref.ensures.value)
    (enabled_named c.args.net.now.history.now c.in_ok-enabled.enabled.items (length c.names.result.now) size c.steps.ensures.reached c.in_ok-enabled.ensures)

pub returns : goal.returns
returns c =
    IfOk-weaker c.events_answer.result _ _ (λ answer h.
    enabled_told c.args.net.now c.names.result.now c.in_ok-enabled.enabled.items c.deref.result.now answer.items c.names.ensures.names c.deref.ensures.value c.in_ok-enabled.ensures h) c.events_answer.ensures
