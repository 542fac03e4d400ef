use Rattle.std.specs.Prelude.{refl}
use Rattle.jc_rules.specs.Refused.{refused, not_received}
use Rattle.jc_rules.proofs.examples.of_nobody.Goals as goal

pub returns : goal.returns
returns c = refused refl refl (not_received refl refl)
