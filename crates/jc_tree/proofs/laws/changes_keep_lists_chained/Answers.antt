use Rattle.jc_tree.proofs.ChainedLemmas.{keeps_chained}
use Rattle.jc_tree.proofs.laws.changes_keep_lists_chained.Goals as goal

pub returns : goal.returns
returns c = keeps_chained
