use Rattle.jc_meaning.proofs.ReplicasLemmas.{meaning_is_tree}
use Rattle.jc_meaning.proofs.laws.meanings_are_trees.Goals as goal

pub returns : goal.returns
returns c = λ ops t kept m. meaning_is_tree ops t kept m
