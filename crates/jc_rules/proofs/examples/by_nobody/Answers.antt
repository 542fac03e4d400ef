use Rattle.std.specs.Prelude.{refl}
use Rattle.jc_rules.specs.Refused.{no_replica}
use Rattle.jc_rules.proofs.examples.by_nobody.Goals as goal

pub returns : goal.returns
returns c = no_replica refl
