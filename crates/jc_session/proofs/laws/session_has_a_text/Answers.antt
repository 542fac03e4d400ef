use Rattle.jc_session.proofs.SomeTextLemmas as text
use Rattle.jc_session.proofs.laws.session_has_a_text.Goals as goal

pub returns : goal.returns
returns c =
    text.session_has_a_text
    (record { step_or_stuck = c.step_or_stuck.ensures; trees_converge = c.trees_converge.ensures; event_else_fault = c.event_else_fault.ensures })
    c.scenario_else_fault.ensures c.scenarios_are_well_formed.ensures c.led_or_stuck.ensures
