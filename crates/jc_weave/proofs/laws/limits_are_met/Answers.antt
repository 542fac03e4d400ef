use Rattle.jc_weave.proofs.WeavingEndsLemmas.{limits_are_met}
use Rattle.jc_weave.proofs.laws.limits_are_met.Goals as goal

pub returns : goal.returns
returns c = limits_are_met
