use Rattle.jc_vectors.proofs.OwnAreAppliedLemmas.{own_are_applied}
use Rattle.jc_vectors.proofs.state_laws.own_are_applied.Goals as goal

pub returns : goal.returns
returns c = own_are_applied
