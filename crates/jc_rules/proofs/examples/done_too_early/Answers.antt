use Rattle.std.specs.Prelude.{refl}
use Rattle.jc_rules.specs.Refused.{not_acted}
use Rattle.jc_rules.proofs.examples.done_too_early.Goals as goal

pub returns : goal.returns
returns c = not_acted refl refl
