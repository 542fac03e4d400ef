use Rattle.std.proofs.Common.{ℕ, List, length, Result, Err, refl, ap, sym, subst, ◌∙◌}
use Rattle.std.specs.List.{All}
use Rattle.std.proofs.lemmas.Result.{IfOk-weaker}
use Rattle.jc_rules.specs.declared.operation.Event.{Event}
use Rattle.jc_printer.specs.Canon.{AreNamed}
use Rattle.jc_scenario.specs.Views.{scenario_view}
use Rattle.jc_network.specs.declared.fault.StartFault.{StartFault}
use Rattle.jc_network.specs.Given.{before_given}
use Rattle.jc_choice.specs.declared.end.End.{End}
use Rattle.jc_weave.specs.declared.weaving.Woven.{Woven}
use Rattle.jc_looks.proofs.LooksLemmas.{none_stuck}
use Rattle.jc_listings.specs.WovenTexts.{IsNamedEnd}
use Rattle.jc_listings.proofs.WovenTextsLemmas.{named_ends, each_end, each_count, named_events, woven_told}
use Rattle.jc_listings.proofs.weaving.woven_answer.Goals as goal

abbrev failed : StartFault → Result Woven StartFault
failed fault = Err fault

pub unreachable-requires : goal.unreachable-requires
unreachable-requires c =
    let s = scenario_view c.args.scenario.now in
    let w = c.in-Err-Given in
    none_stuck s s.given (before_given s) c.requires.starts.0 w.field-0-0 w.field-0-1 refl c.requires.starts.1 (w.ensures.given w.field-0-0 w.field-0-1 (ap failed w.field-0-is))

pub ends_answer-requires-clause-each : goal.ends_answer-requires-clause-each
ends_answer-requires-clause-each c =
    let s = scenario_view c.args.scenario.now in
    let w = c.in-Ok.woven in
    let names = sym (ap length c.as_slice-names.ensures.value) in (
      ap length c.as_slice-2.ensures.value ∙ (each_end s c.args.seed c.args.limit w.schedule.items w.net.history.now w.ends.items c.in-Ok.ensures.woven ∙ names),
      ap length c.as_slice.ensures.value ∙ (each_count s w.schedule.items w.made.items c.in-Ok.ensures.made ∙ names),
    )

pub ends_answer-requires-clause-named : goal.ends_answer-requires-clause-named
ends_answer-requires-clause-named c =
    let s = scenario_view c.args.scenario.now in
    let w = c.in-Ok.woven in
    subst (λ (names : List (List ℕ)). All (IsNamedEnd names) c.as_slice-2.result.now) (sym c.as_slice-names.ensures.value)
    (subst (λ (ends : List End). All (IsNamedEnd s.names) ends) (sym c.as_slice-2.ensures.value)
    (named_ends s c.args.seed c.args.limit w.schedule.items w.net.history.now w.ends.items c.requires.formed c.in-Ok.ensures.woven))

pub events_answer-requires : goal.events_answer-requires
events_answer-requires c =
    let s = scenario_view c.args.scenario.now in
    let w = c.in-Ok.woven in
    subst (λ (names : List (List ℕ)). All (λ (e : Event). AreNamed e (length names)) c.as_slice-3.result.now) (sym c.as_slice-names.ensures.value)
    (subst (λ (events : List Event). All (λ (e : Event). AreNamed e (length s.names)) events) (sym c.as_slice-3.ensures.value)
    (named_events s c.args.seed c.args.limit w.schedule.items w.net.history.now w.ends.items c.requires.formed c.requires.few c.in-Ok.ensures.woven))

pub returns : goal.returns
returns c =
    let s = scenario_view c.args.scenario.now in
    let w = c.in-Ok.woven in
    IfOk-weaker c.object_text.result _ _ (λ answer h.
    woven_told s c.args.seed c.args.limit w.schedule.items c.as_slice-3.result.now w.net.history.now w.ends.items c.as_slice-2.result.now c.as_slice-names.result.now c.as_slice.result.now c.text.result c.text-2.result c.as_slice-4.result.now c.as_slice-5.result.now answer.items c.in-Ok.ensures.woven
    c.as_slice-names.ensures.value (c.as_slice.ensures.value ∙ c.in-Ok.ensures.made) c.as_slice-2.ensures.value c.as_slice-3.ensures.value c.text.ensures c.text-2.ensures
    (c.as_slice-4.ensures.value ∙ c.in_ok-ends.ensures) (c.as_slice-5.ensures.value ∙ c.in_ok-events.ensures) h) c.object_text.ensures
