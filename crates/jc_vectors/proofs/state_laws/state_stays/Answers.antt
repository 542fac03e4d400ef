use Rattle.jc_vectors.proofs.StoredStatesLemmas.{state_stays}
use Rattle.jc_vectors.proofs.state_laws.state_stays.Goals as goal

pub returns : goal.returns
returns c = state_stays
