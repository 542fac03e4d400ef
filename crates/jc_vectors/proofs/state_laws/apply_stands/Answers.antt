use Rattle.jc_vectors.proofs.ApplyStandsLemmas.{apply_stands}
use Rattle.jc_vectors.proofs.state_laws.apply_stands.Goals as goal

pub returns : goal.returns
returns c = apply_stands
