use Rattle.jc_debug.proofs.BreaksLemmas.{one_makes}
use Rattle.jc_debug.proofs.laws.one_trace.Goals as goal

pub returns : goal.returns
returns c = one_makes
