use Rattle.jc_vectors.proofs.LawsLemmas.{operate_alike}
use Rattle.jc_vectors.proofs.laws.operate_alike.Goals as goal

pub returns : goal.returns
returns c = operate_alike
