use Rattle.jc_meaning.proofs.RootedSetsLemmas.{next_new}
use Rattle.jc_meaning.proofs.MeaningStepLemmas.{means_with}
use Rattle.jc_meaning.proofs.laws.one_more_means.Goals as goal

pub returns : goal.returns
returns c = λ set o t d n m a. means_with set o t d (next_new set o n) m a
