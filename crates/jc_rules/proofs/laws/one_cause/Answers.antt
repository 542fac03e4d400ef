use Rattle.jc_rules.proofs.RefusedLemmas.{one_cause}
use Rattle.jc_rules.proofs.laws.one_cause.Goals as goal

pub returns : goal.returns
returns c = one_cause
