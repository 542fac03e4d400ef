use Rattle.jc_meaning.proofs.RunsLemmas.{trees_converge}
use Rattle.jc_meaning.proofs.laws.trees_converge.Goals as goal

pub returns : goal.returns
returns c = λ scripts network r A B k l e. trees_converge scripts network r A B k l e
