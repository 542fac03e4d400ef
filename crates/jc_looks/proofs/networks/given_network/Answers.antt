use Rattle.std.proofs.Common.{Result, Err, take, sym, ap, subst}
use Rattle.jc_rules.specs.Step.{AfterIn}
use Rattle.jc_scenario.specs.Views.{scenario_view}
use Rattle.jc_network.specs.declared.fault.StartFault.{StartFault}
use Rattle.jc_network.specs.Given.{before_given}
use Rattle.jc_looks.proofs.LooksLemmas.{none_stuck}
use Rattle.jc_looks.proofs.networks.given_network.Goals as goal

abbrev failed : StartFault → Result (Unit {0}) StartFault
failed fault = Err fault

pub unreachable-requires : goal.unreachable-requires
unreachable-requires c =
    let s = scenario_view c.args.scenario.now in
    let w = c.in-Err-Given in
    let led = subst (λ es. AfterIn (before_given s) (take c.args.count es) c.requires.leads.0) (sym c.deref.ensures.value) c.requires.leads.1 in
    none_stuck s (take c.args.count c.deref.result.now) c.in_ok-net.net.history.now c.requires.leads.0 w.field-0-0 w.field-0-1 c.in_ok-net.ensures.network led
    (w.ensures.stuck w.field-0-0 w.field-0-1 (ap failed w.field-0-is))
