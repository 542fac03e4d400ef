use Rattle.jc_weave.proofs.WeavingOverLemmas.{each_seed_weaves}
use Rattle.jc_weave.proofs.laws.each_seed_weaves.Goals as goal

pub returns : goal.returns
returns c = each_seed_weaves
