use Rattle.jc_rules.proofs.VersionLemmas.{stuck_in_has_none}
use Rattle.jc_rules.proofs.laws.stuck_in_has_none.Goals as goal

pub returns : goal.returns
returns c = stuck_in_has_none
