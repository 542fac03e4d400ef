use Rattle.std.proofs.Common.{◌≡◌, true}
use Rattle.jc_scenario.specs.Views.{scenario_view}
use Rattle.jc_listings.proofs.JournalPartsLemmas.{behind_more}
use Rattle.jc_listings.proofs.journals.networks_behind.Goals as goal

pub loop-made-preserved : goal.loop-made-preserved
loop-made-preserved c =
    let yes : c.in_ok-is_made.is_made ≡ true = cc in
    behind_more (scenario_view c.args.events.now.scenario.now) c.args.events.now.schedule.now c.loop-made.made c.loop-made.networks c.pass.new.self c.behind-next.result.event c.loop-made.invariant c.behind-next.ensures.event (c.in_ok-is_made.ensures.made yes) c.in_ok-is_made.ensures.twins c.in_ok-is_made.ensures.names
