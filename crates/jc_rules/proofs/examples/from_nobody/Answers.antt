use Rattle.std.specs.Prelude.{refl}
use Rattle.jc_rules.specs.Refused.{no_sender}
use Rattle.jc_rules.proofs.examples.from_nobody.Goals as goal

pub returns : goal.returns
returns c = no_sender refl
