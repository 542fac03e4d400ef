use Rattle.std.proofs.Common.{refl}
use Rattle.jc_out.proofs.OutLemmas.{adds_nothing, adds_both}
use Rattle.jc_out.proofs.laws.texts_are_joined.Goals as goal

pub returns : goal.returns
returns c = (λ o. adds_nothing o o refl, adds_both)
