use Rattle.jc_meaning.proofs.RunsLemmas.{dropped_is_meaning}
use Rattle.jc_meaning.proofs.laws.dropped_trees_are_meanings.Goals as goal

pub returns : goal.returns
returns c = λ scripts network r A k. dropped_is_meaning scripts network r A k
