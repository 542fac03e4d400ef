use Rattle.jc_meaning.proofs.RootedSetsLemmas.{closed_good}
use Rattle.jc_meaning.proofs.MeaningStepLemmas.{is_tidy}
use Rattle.jc_meaning.proofs.laws.meanings_are_tidy.Goals as goal

pub returns : goal.returns
returns c = λ set t h m. is_tidy set t (closed_good set h) m
