use Rattle.jc_debug.proofs.LawsLemmas.{one_goes}
use Rattle.jc_debug.proofs.laws.one_move.Goals as goal

pub returns : goal.returns
returns c = one_goes
