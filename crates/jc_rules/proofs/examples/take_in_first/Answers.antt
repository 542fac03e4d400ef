use Rattle.std.specs.Prelude.{refl}
use Rattle.jc_rules.specs.Refused.{wrong_version}
use Rattle.jc_rules.proofs.examples.take_in_first.Goals as goal

pub returns : goal.returns
returns c = wrong_version refl refl (λ a. a)
