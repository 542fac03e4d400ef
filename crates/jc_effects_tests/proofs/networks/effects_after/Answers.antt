use Rattle.std.proofs.Common.{◌≡◌, [], ◌∷◌, ◌++◌, ap, subst, ◌∙◌}
use Rattle.jc_rules.specs.Step.{Network, StepIn}
use Rattle.jc_rules.proofs.VersionLemmas.{one_after_in}
use Rattle.jc_scenario.specs.Views.{scenario_view}
use Rattle.jc_network.specs.Given.{before_given}
use Rattle.jc_effects_tests.proofs.networks.effects_after.Goals as goal

-- the same events lead to one network
pub event_effects-requires-clause-made : goal.event_effects-requires-clause-made
event_effects-requires-clause-made g c =
    let same : c.in_ok-new.new.history.now ≡ c.in_ok-old.old.history.now =
    one_after_in (before_given (scenario_view c.args.scenario.now)) c.args.events.now c.in_ok-new.new.history.now c.in_ok-old.old.history.now c.in_ok-new.ensures c.in_ok-old.ensures in (
      c.in-Ok.field-0.rows,
      subst (λ (N : Network). StepIn N c.args.event.now c.step.new.self.history.now c.in-Ok.field-0.rows) same c.in-Ok.ensures.made.step,
    )

pub event_effects-requires-clause-last : goal.event_effects-requires-clause-last
event_effects-requires-clause-last g c =
    let same : c.in_ok-new.new.history.now ≡ c.in_ok-old.old.history.now =
    one_after_in (before_given (scenario_view c.args.scenario.now)) c.args.events.now c.in_ok-new.new.history.now c.in_ok-old.old.history.now c.in_ok-new.ensures c.in_ok-old.ensures in
    record { before = c.in_ok-new.new.history.earlier; earlier = c.in-Ok.ensures.made.earlier ∙ ap (λ (N : Network). c.in_ok-new.new.history.earlier ++ N ∷ []) same }
