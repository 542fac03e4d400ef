use Rattle.std.proofs.Common.{ℕ, suc, ◌<◌, List, length, sym, subst, arith}
use Rattle.jc_printer.specs.Canon.{AreNamed}
use Rattle.jc_scenario.specs.Views.{scenario_view}
use Rattle.jc_listings.specs.JournalParts.{AreFound}
use Rattle.jc_listings.specs.Positions.{all_events}
use Rattle.jc_listings.proofs.JournalPartsLemmas.{all_named, one_named, not_behind, line_there}
use Rattle.jc_listings.proofs.journals.line_behind.Goals as goal

pub line-requires-clause-named : goal.line-requires-clause-named
line-requires-clause-named c =
    let s = scenario_view c.args.scenario.now in
    let schedule = c.args.schedule.now in
    let b = subst (AreFound s schedule c.args.count) c.in-Some.is c.in_ok-found.ensures in
    let event = c.behind-next.result.event in
    subst (λ (names : List (List ℕ)). AreNamed event (length names)) (sym b.names) (one_named (length s.names) (all_events s schedule) c.args.count event (all_named s schedule c.requires.formed c.requires.named) c.behind-next.ensures.event)

pub unreachable-requires : goal.unreachable-requires
unreachable-requires c =
    let s = scenario_view c.args.scenario.now in
    let schedule = c.args.schedule.now in
    let u = subst (AreFound s schedule c.args.count) c.in_default.is c.in_ok-found.ensures in
    let le : u.stop < suc c.args.count = let lt = u.before in omega (arith, lt) in
    not_behind s schedule u.stop u.network u.event u.why (suc c.args.count) c.requires.made.0 u.stops le c.requires.made.1

pub returns : goal.returns
returns c =
    let s = scenario_view c.args.scenario.now in
    let schedule = c.args.schedule.now in
    let b = subst (AreFound s schedule c.args.count) c.in-Some.is c.in_ok-found.ensures in
    line_there c.args.details s schedule c.args.count c.in-Some.networks c.line.new.self.first.history.now c.behind-next.result b c.behind-next.ensures.event c.requires.made c.in_ok-line.line.is_stuck c.in_ok-line.line.text.items c.behind-next.ensures.number c.in_ok-line.ensures.line
