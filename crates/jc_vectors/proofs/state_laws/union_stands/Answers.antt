use Rattle.jc_vectors.proofs.UnionStandsLemmas.{union_stands}
use Rattle.jc_vectors.proofs.state_laws.union_stands.Goals as goal

pub returns : goal.returns
returns c = union_stands
