use Rattle.jc_vectors.proofs.OperationIdsLemmas.{within_is}
use Rattle.jc_vectors.proofs.laws.within_is.Goals as goal

pub returns : goal.returns
returns c = within_is
