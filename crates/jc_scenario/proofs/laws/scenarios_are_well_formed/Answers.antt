use Rattle.jc_scenario.proofs.LawsLemmas.{well_formed_scenarios}
use Rattle.jc_scenario.proofs.laws.scenarios_are_well_formed.Goals as goal

pub returns : goal.returns
returns c = well_formed_scenarios c.legal_scenarios.ensures
