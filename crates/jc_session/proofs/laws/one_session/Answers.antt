use Rattle.jc_session.proofs.LawsLemmas as text
use Rattle.jc_session.proofs.laws.one_session.Goals as goal

pub returns : goal.returns
returns c =
    text.one_session
    (record { one_event = c.one_event.ensures; one_fault = c.one_event_fault.ensures; never_both = c.event_or_fault.ensures })
    (record { one_start = c.one_start.ensures; one_given_stuck = c.one_given_stuck.ensures; led_or_stuck = c.led_or_stuck.ensures })
    c.one_scenario.ensures c.one_fault.ensures c.scenario_or_fault.ensures c.scenarios_are_well_formed.ensures
