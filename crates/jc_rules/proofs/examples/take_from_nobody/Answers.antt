use Rattle.std.specs.Prelude.{refl}
use Rattle.jc_rules.specs.Refused.{sender_missing}
use Rattle.jc_rules.proofs.examples.take_from_nobody.Goals as goal

pub returns : goal.returns
returns c = sender_missing refl
