use Rattle.jc_network.proofs.EnabledLemmas.{others_are_stuck}
use Rattle.jc_network.proofs.laws.others_are_stuck.Goals as goal

pub returns : goal.returns
returns c = λ network event f. others_are_stuck network event f
