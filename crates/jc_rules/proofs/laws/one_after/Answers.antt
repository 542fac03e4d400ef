use Rattle.jc_rules.proofs.StepLemmas.{one_after}
use Rattle.jc_rules.proofs.laws.one_after.Goals as goal

pub returns : goal.returns
returns c = one_after
