use Rattle.jc_meaning.proofs.ComparedLemmas.{one_tree}
use Rattle.jc_meaning.proofs.laws.one_tree.Goals as goal

pub returns : goal.returns
returns c = λ set t d h g m n. one_tree set t d h g m n
