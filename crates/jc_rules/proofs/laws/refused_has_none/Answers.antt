use Rattle.jc_rules.proofs.RefusedLemmas.{refused_has_none}
use Rattle.jc_rules.proofs.laws.refused_has_none.Goals as goal

pub returns : goal.returns
returns c = refused_has_none
