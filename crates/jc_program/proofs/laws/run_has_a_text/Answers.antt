use Rattle.jc_program.proofs.SomeRunLemmas.{run_has_a_text}
use Rattle.jc_program.proofs.laws.run_has_a_text.Goals as goal

pub returns : goal.returns
returns c = run_has_a_text c.scenario_else_fault.ensures c.step_or_stuck.ensures c.led_or_stuck.ensures
