use Rattle.jc_scenario.proofs.ReadBackLemmas.{first_stays}
use Rattle.jc_scenario.proofs.laws.first_version_stays.Goals as goal

pub returns : goal.returns
returns c = first_stays
