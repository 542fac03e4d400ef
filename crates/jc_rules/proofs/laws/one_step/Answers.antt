use Rattle.jc_rules.proofs.StepLemmas.{one_step}
use Rattle.jc_rules.proofs.laws.one_step.Goals as goal

pub returns : goal.returns
returns c = one_step
