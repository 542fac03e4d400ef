use Rattle.jc_vectors.proofs.OperationIdsLemmas.{inserted_withdrawn}
use Rattle.jc_vectors.proofs.laws.inserted_withdrawn.Goals as goal

pub returns : goal.returns
returns c = inserted_withdrawn
