use Rattle.jc_scenario.proofs.ReadBackLemmas.{reads_back}
use Rattle.jc_scenario.proofs.laws.scenarios_read_back.Goals as goal

pub returns : goal.returns
returns c = reads_back
