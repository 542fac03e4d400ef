use Rattle.std.specs.Prelude.{refl}
use Rattle.jc_rules.specs.Refused.{not_received}
use Rattle.jc_rules.proofs.examples.apply_unreceived.Goals as goal

pub returns : goal.returns
returns c = not_received refl refl
