use Rattle.std.proofs.Common.{◌≡◌, None, refl, ap, sym, subst, ◌∙◌}
use Rattle.std.specs.Option.{option_map}
use Rattle.jc_session.specs.Views.{line_of_bytes}
use Rattle.jc_requests.specs.Input.{size_of}
use Rattle.jc_requests.specs.Views.{asked_view}
use Rattle.jc_serve.specs.declared.serving.Held.{Held as AnyHeld}
use Rattle.jc_serve.proofs.ServingLemmas.{line_led, line_refused}
use Rattle.jc_serve.proofs.serving.line_answer.Goals as goal

pub answer-requires-clause-no_text : goal.answer-requires-clause-no_text
answer-requires-clause-no_text c = subst (λ o. size_of o ≡ None) (sym c.asked.ensures ∙ ap (option_map asked_view) c.in-Some.is) c.requires.no_text

pub returns-in_default-clause-answer : goal.returns-in_default-clause-answer
returns-in_default-clause-answer c =
    line_refused (line_of_bytes c.args.line) c.args.held.now c.in_ok-text.text.items (sym c.asked.ensures ∙ ap (option_map asked_view) c.in_default.is) c.in_ok-text.ensures

pub returns-clause-answer : goal.returns-clause-answer
returns-clause-answer c =
    let y : AnyHeld = record { text = c.args.held.now.text; subject = c.answer.new.subject } in
    line_led (line_of_bytes c.args.line) (asked_view c.in-Some.request) c.args.held.now y c.as_slice.result.now c.in_ok-text-2.text.items c.as_slice.ensures.value refl (sym c.asked.ensures ∙ ap (option_map asked_view) c.in-Some.is) c.in_ok-text-2.ensures
