use Rattle.jc_tree.proofs.TreeLemmas.{undo_law}
use Rattle.jc_tree.proofs.laws.undo_gives_back.Goals as goal

pub returns : goal.returns
returns c = undo_law
