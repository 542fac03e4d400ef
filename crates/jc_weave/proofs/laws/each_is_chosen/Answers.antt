use Rattle.jc_weave.proofs.WeavingChosenLemmas.{each_is_chosen}
use Rattle.jc_weave.proofs.laws.each_is_chosen.Goals as goal

pub returns : goal.returns
returns c = each_is_chosen
