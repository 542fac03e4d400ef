use Rattle.std.proofs.Common.{true, false, ◌∙◌, ap}
use Rattle.jc_scenario.specs.Views.{scenario_view}
use Rattle.jc_network.specs.NetworkHistory.{NetworkHistory}
use Rattle.jc_network.proofs.GivenHistoryLemmas.{has_parts}
use Rattle.jc_out.specs.Out.{output}
use Rattle.jc_program.proofs.JournaledLemmas.{nothing_journaled, given_stops, has_led, given_stand, schedule_told, schedule_stand}
use Rattle.jc_program.proofs.RunOutLemmas.{on_err}
use Rattle.jc_program.proofs.journal.add_journal.Goals as goal

pub before_given-requires : goal.before_given-requires
before_given-requires g c = has_parts (scenario_view c.args.scenario) c.requires

-- there was no memory for a network
pub returns-in_err-behind-clause-halted : goal.returns-in_err-behind-clause-halted
returns-in_err-behind-clause-halted g c = on_err _ c.from_residual.result (nothing_journaled _ _ (output g.K.Sink c.args.out.now))

pub returns-in_err-net-clause-halted : goal.returns-in_err-net-clause-halted
returns-in_err-net-clause-halted g c = on_err _ c.from_residual-in_err-net.result (nothing_journaled _ _ (output g.K.Sink c.args.out.now))

-- ---- the given events

pub journal_events-requires-clause-named : goal.journal_events-requires-clause-named
journal_events-requires-clause-named g c = rw (c.in_ok-net.ensures.called, c.deref.ensures.value) c.requires.given_known

pub returns-then-given_is_stuck-clause-ok : goal.returns-then-given_is_stuck-clause-ok
returns-then-given_is_stuck-clause-ok g c =
    given_stops _ (scenario_view c.args.scenario) _ c.in_ok-net.ensures _ c.deref.ensures.value _ _ _ (rw (c.in_ok-behind.ensures.asked, c.if-given_is_stuck.true) at c.in_ok-given_is_stuck.ensures.ok)

pub returns-in_err-given_is_stuck-clause-halted : goal.returns-in_err-given_is_stuck-clause-halted
returns-in_err-given_is_stuck-clause-halted g c =
    on_err _ c.from_residual-in_err-given_is_stuck.result
    (given_stand _ (scenario_view c.args.scenario) _ c.in_ok-net.ensures _ c.deref.ensures.value _ _ (rw c.in_ok-behind.ensures.asked at c.in_err-given_is_stuck.ensures.halted))

-- ---- the schedule

pub journal_events-requires-2-clause-named : goal.journal_events-requires-2-clause-named
journal_events-requires-2-clause-named g c =
    let names = ap (λ (k : NetworkHistory). k.names) c.begin.ensures ∙ (c.in_ok-given_is_stuck.ensures.ok.names ∙ c.in_ok-net.ensures.called) in
    rw (names, c.deref-2.ensures.value) c.requires.known

pub returns-then-is_stuck-clause-ok : goal.returns-then-is_stuck-clause-ok
returns-then-is_stuck-clause-ok g c =
    let all = rw (c.in_ok-behind.ensures.asked, c.if-given_is_stuck.false) at c.in_ok-given_is_stuck.ensures.ok in
    let led = has_led _ (scenario_view c.args.scenario) _ c.in_ok-net.ensures _ c.deref.ensures.value _ c.begin.new.self _ _ all c.begin.ensures in
    schedule_told _ _ _ _ _ led _ c.deref-2.ensures.value _ _ true (rw (c.in_ok-given_is_stuck.ensures.asked ∙ c.in_ok-behind.ensures.asked, c.if-is_stuck.true) at c.in_ok-is_stuck.ensures.ok)

pub returns-clause-ok : goal.returns-clause-ok
returns-clause-ok g c =
    let all = rw (c.in_ok-behind.ensures.asked, c.if-given_is_stuck.false) at c.in_ok-given_is_stuck.ensures.ok in
    let led = has_led _ (scenario_view c.args.scenario) _ c.in_ok-net.ensures _ c.deref.ensures.value _ c.begin.new.self _ _ all c.begin.ensures in
    schedule_told _ _ _ _ _ led _ c.deref-2.ensures.value _ _ false (rw (c.in_ok-given_is_stuck.ensures.asked ∙ c.in_ok-behind.ensures.asked, c.if-is_stuck.false) at c.in_ok-is_stuck.ensures.ok)

pub returns-in_err-is_stuck-clause-halted : goal.returns-in_err-is_stuck-clause-halted
returns-in_err-is_stuck-clause-halted g c =
    let all = rw (c.in_ok-behind.ensures.asked, c.if-given_is_stuck.false) at c.in_ok-given_is_stuck.ensures.ok in
    let led = has_led _ (scenario_view c.args.scenario) _ c.in_ok-net.ensures _ c.deref.ensures.value _ c.begin.new.self _ _ all c.begin.ensures in
    on_err _ c.from_residual-in_err-is_stuck.result
    (schedule_stand _ _ _ _ _ led _ c.deref-2.ensures.value _ (rw (c.in_ok-given_is_stuck.ensures.asked ∙ c.in_ok-behind.ensures.asked) at c.in_err-is_stuck.ensures.halted))
