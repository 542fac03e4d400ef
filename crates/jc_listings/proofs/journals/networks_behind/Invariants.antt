use Rattle.jc_scenario.specs.Views.{scenario_view}
use Rattle.jc_listings.specs.JournalParts.{AreBehind}
use Rattle.jc_listings.proofs.journals.networks_behind.Given as goal

-- so many events were made
abbrev pub invariant-loop-made : goal.invariant-loop-made
invariant-loop-made l = AreBehind (scenario_view l.events.scenario.now) l.events.schedule.now l.made l.networks
