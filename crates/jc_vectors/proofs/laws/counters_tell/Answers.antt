use Rattle.jc_vectors.proofs.OperationIdsLemmas.{counters_tell}
use Rattle.jc_vectors.proofs.laws.counters_tell.Goals as goal

pub returns : goal.returns
returns c = counters_tell
