use Rattle.std.proofs.Common.{rules}
use Rattle.jc_scenario.proofs.scenario.Scenario.copy.Goals as goal

-- names, scripts and schedule are copied
pub returns : goal.returns
returns c = search rules
