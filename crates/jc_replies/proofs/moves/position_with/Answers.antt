use Rattle.std.proofs.Common.{ℕ, List, length, codes, ap, sym, subst, ◌∙◌}
use Rattle.std.proofs.lemmas.Result.{IfOk-weaker}
use Rattle.jc_printer.specs.Canon.{AreNamed}
use Rattle.jc_network.specs.NetworkHistory.{NetworkHistory}
use Rattle.jc_answers.specs.JsonTexts.{number_member}
use Rattle.jc_replies.specs.AnswerOf.{background_of}
use Rattle.jc_replies.proofs.MovesLemmas.{event_named, move_with_event, move_without_event}
use Rattle.jc_replies.proofs.moves.position_with.Goals as goal

pub print_event-requires : goal.print_event-requires
print_event-requires c =
    let d = c.args.debugger.now in
    let names = c.names.ensures.names ∙ ap (λ (x : NetworkHistory). x.names) c.net.ensures.net in
    subst (λ (ns : List (List ℕ)). AreNamed c.in-Some.event (length ns)) (sym names)
    (event_named (background_of c.args.given.now d) (length d.traces) (length d.net.names) c.in-Some.event c.requires.given c.requires.all (sym c.event_here.ensures ∙ c.in-Some.is))

pub returns-in_ok-text-in-Some : goal.returns-in_ok-text-in-Some
returns-in_ok-text-in-Some c =
    let d = c.args.debugger.now in
    let names = c.names.ensures.names ∙ ap (λ (x : NetworkHistory). x.names) c.net.ensures.net in
    let number = c.number-at.ensures ∙ ap (number_member (codes "at")) c.position.ensures.position in
    IfOk-weaker c.object_text.result _ _ (λ answer h.
    move_with_event (background_of c.args.given.now d) (length d.traces) c.in-Some.event c.names.result.now c.number-at.result c.args.end c.string.result c.args.more c.as_str.result.now answer.items names (sym c.event_here.ensures ∙ c.in-Some.is) number (c.as_str.ensures.value ∙ c.in_ok-text-in-Some.ensures) c.string.ensures h) c.object_text.ensures

pub returns-in-None : goal.returns-in-None
returns-in-None c =
    let d = c.args.debugger.now in
    let number = c.number-at.ensures ∙ ap (number_member (codes "at")) c.position.ensures.position in
    IfOk-weaker c.object_text-in-None.result _ _ (λ answer h.
    move_without_event (background_of c.args.given.now d) (length d.traces) c.number-at.result c.args.end c.args.more answer.items (sym c.event_here.ensures ∙ c.in-None.is) number h) c.object_text-in-None.ensures
