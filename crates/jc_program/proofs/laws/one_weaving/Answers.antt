use Rattle.jc_program.proofs.WeaveRunsLemmas.{one_weaving}
use Rattle.jc_program.proofs.laws.one_weaving.Goals as goal

pub returns : goal.returns
returns c = one_weaving c.one_schedule.ensures c.one_given_stuck.ensures c.led_or_stuck.ensures c.one_scenario.ensures c.scenario_or_fault.ensures c.one_fault.ensures
