use Rattle.jc_meaning.proofs.MeaningStepLemmas.{nothing_means}
use Rattle.jc_meaning.proofs.laws.nothing_means_empty.Goals as goal

pub returns : goal.returns
returns c = nothing_means
