use Rattle.std.proofs.Common.{subst}
use Rattle.std.proofs.lemmas.Result.{IfOk-weaker}
use Rattle.jc_scenario.specs.Views.{scenario_view}
use Rattle.jc_listings.specs.JournalParts.{AreFound}
use Rattle.jc_listings.proofs.JournalPartsLemmas.{listed_between, listed_none}
use Rattle.jc_listings.proofs.journals.lines_between.Goals as goal

pub returns-in-Some : goal.returns-in-Some
returns-in-Some c =
    let s = scenario_view c.args.scenario.now in
    let schedule = c.args.schedule.now in
    let b = subst (AreFound s schedule c.args.first) c.in-Some.is c.in_ok-found.ensures in
    IfOk-weaker c.lines.result _ _ (λ answer h. listed_between c.args.details s schedule c.args.first c.args.last c.in-Some.networks answer.items b h) c.lines.ensures

pub returns-in-None : goal.returns-in-None
returns-in-None c =
    let s = scenario_view c.args.scenario.now in
    let schedule = c.args.schedule.now in
    let u = subst (AreFound s schedule c.args.first) c.in-None.is c.in_ok-found.ensures in
    IfOk-weaker c.no_lines.result _ _ (λ answer h. listed_none c.args.details s schedule c.args.first c.args.last answer.items u h) c.no_lines.ensures
