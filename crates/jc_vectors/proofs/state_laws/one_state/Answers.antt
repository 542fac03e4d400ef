use Rattle.jc_vectors.proofs.StoredStatesLemmas.{one_state}
use Rattle.jc_vectors.proofs.state_laws.one_state.Goals as goal

pub returns : goal.returns
returns c = one_state
