use Rattle.jc_effects.proofs.EffectsLemmas.{effects}
use Rattle.jc_effects.proofs.laws.effects_of_one.Goals as goal

pub returns : goal.returns
returns c = λ o a b x P k i. effects o a b x P k i
