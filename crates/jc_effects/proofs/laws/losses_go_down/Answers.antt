use Rattle.jc_effects.proofs.LossesLemmas.{down}
use Rattle.jc_effects.proofs.laws.losses_go_down.Goals as goal

pub returns : goal.returns
returns c = down
