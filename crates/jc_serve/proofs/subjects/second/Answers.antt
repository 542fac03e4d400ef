use Rattle.std.proofs.Common.{refl, subst}
use Rattle.jc_scenario.specs.WellFormed.{Scenario}
use Rattle.jc_scenario.specs.Views.{scenario_view}
use Rattle.jc_network.specs.Given.{before_given, IsUnstartedFault}
use Rattle.jc_network.proofs.GivenHistoryLemmas.{told_given}
use Rattle.jc_looks.proofs.LooksLemmas.{none_stuck}
use Rattle.jc_serve.proofs.subjects.second.Goals as goal

pub unreachable-requires : goal.unreachable-requires
unreachable-requires c =
    let s = scenario_view c.args.scenario.now in
    let w = c.in-Err-Given in
    let fault : IsUnstartedFault s w.field-0 = subst (λ (own : Scenario). IsUnstartedFault own w.field-0) c.in_ok-copy.ensures w.ensures.unstarted in
    let given = told_given s w.field-0 w.field-0-0 w.field-0-1 w.field-0-2 w.field-0-is fault in
    none_stuck s s.given (before_given s) c.requires.starts.0 w.field-0-1 w.field-0-2 refl c.requires.starts.1 given.1
