use Rattle.jc_effects.proofs.ElsewhereLemmas.{elsewhere}
use Rattle.jc_effects.proofs.laws.nothing_elsewhere.Goals as goal

pub returns : goal.returns
returns c = λ o a b x P k away list. elsewhere o a b x P k away list
