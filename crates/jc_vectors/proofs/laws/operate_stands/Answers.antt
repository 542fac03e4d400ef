use Rattle.jc_vectors.proofs.LawsLemmas.{operate_stands}
use Rattle.jc_vectors.proofs.laws.operate_stands.Goals as goal

pub returns : goal.returns
returns c = operate_stands
