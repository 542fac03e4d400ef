use Rattle.jc_meaning.proofs.RunsLemmas.{trees_meant}
use Rattle.jc_meaning.proofs.laws.trees_are_meant.Goals as goal

pub returns : goal.returns
returns c = λ scripts network r A k. trees_meant scripts network r A k
