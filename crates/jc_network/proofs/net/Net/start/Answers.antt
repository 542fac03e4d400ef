use Rattle.std.proofs.Common.{◌≡◌, Err, ap}
use Rattle.jc_scenario.specs.Views.{scenario_view}
use Rattle.jc_network.specs.declared.fault.StartFault.TheVariants as S
use Rattle.jc_network.proofs.GivenHistoryLemmas.{has_started, has_stuck}
use Rattle.jc_network.proofs.StepsLemmas.{at_err}
use Rattle.jc_network.proofs.net.Net.start.Goals as goal

-- the first given event that is stuck
pub returns-in_err-lead-clause-given : goal.returns-in_err-lead-clause-given
returns-in_err-lead-clause-given c = λ at t e.
    let q = at_err _ c.from_residual-in_err-lead.result (S.Given at t) c.from_residual-in_err-lead.ensures.1 e in
    let is : c.in_err-lead.field-0.0 ≡ S.Given at t = cc in
    has_stuck (scenario_view c.args.scenario.now) c.in_ok-net.net c.deref.result.now at t c.in_ok-net.ensures c.deref.ensures.value (c.in_err-lead.ensures.stuck at t (ap Err is))

pub returns-clause-started : goal.returns-clause-started
returns-clause-started c =
    has_started (scenario_view c.args.scenario.now) c.in_ok-net.net c.lead.new.self c.begin.new.self c.deref.result.now c.in_ok-net.ensures c.deref.ensures.value c.in_ok-lead.ensures.led c.lead.ensures.names c.begin.ensures
