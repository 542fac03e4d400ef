use Rattle.jc_effects.proofs.OneLemmas.{one_difference}
use Rattle.jc_effects.proofs.laws.one_difference.Goals as goal

pub returns : goal.returns
returns c = one_difference
