use Rattle.jc_rules.proofs.RefusedLemmas.{stuck_has_none}
use Rattle.jc_rules.proofs.laws.stuck_has_none.Goals as goal

pub returns : goal.returns
returns c = stuck_has_none
