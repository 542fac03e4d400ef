use Rattle.jc_meaning.proofs.MeaningOfSetLemmas.{same_lists, means_same}
use Rattle.jc_meaning.proofs.laws.orders_mean_the_same.Goals as goal

pub returns : goal.returns
returns c = λ set other t f g h m. means_same set other t (same_lists set other f g h) m
