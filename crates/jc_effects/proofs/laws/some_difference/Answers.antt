use Rattle.jc_effects.proofs.SomeDifferenceLemmas.{some_difference}
use Rattle.jc_effects.proofs.laws.some_difference.Goals as goal

pub returns : goal.returns
returns c = some_difference
