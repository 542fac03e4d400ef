use Rattle.jc_scenario.specs.Views.{scenario_view}
use Rattle.jc_listings.proofs.JournalPartsLemmas.{LinesHere}
use Rattle.jc_listings.proofs.journals.Networks.lines.Given as goal

-- the lines of the events before the count are listed
abbrev pub invariant-loop-count : goal.invariant-loop-count
invariant-loop-count l =
    LinesHere l.details (scenario_view l.events.scenario.now) l.events.schedule.now l.first l.last l.initial.self.first.history.now l.count l.self.first l.self.second l.lines
