use Rattle.std.proofs.Common.{◌∙◌, Err, ap}
use Rattle.jc_scenario.specs.Views.{scenario_view}
use Rattle.jc_network.proofs.GivenHistoryLemmas.{has_parts, has_started, has_stuck}
use Rattle.jc_network.proofs.net.Net.of.Goals as goal

pub before_given-requires : goal.before_given-requires
before_given-requires c = has_parts (scenario_view c.args.scenario) c.requires

-- where the given events have led
pub returns-in-Ok-clause-started : goal.returns-in-Ok-clause-started
returns-in-Ok-clause-started c =
    has_started (scenario_view c.args.scenario) c.in_ok-net.net c.lead.new.self c.begin.new.self c.deref.result.now c.in_ok-net.ensures c.deref.ensures.value c.in-Ok.ensures.led c.lead.ensures.names c.begin.ensures

-- the first of them that is stuck, and the names
pub returns-in-Err-Given-clause-unstarted : goal.returns-in-Err-Given-clause-unstarted
returns-in-Err-Given-clause-unstarted c =
    let w = c.in-Err-Given in (
      c.into_names.ensures ∙ (c.lead.ensures.names ∙ c.in_ok-net.ensures.called),
      has_stuck (scenario_view c.args.scenario) c.in_ok-net.net c.deref.result.now w.at w.stuck c.in_ok-net.ensures c.deref.ensures.value (w.ensures.stuck w.at w.stuck (ap Err w.field-0-is)),
    )
