use Rattle.std.specs.Prelude.{refl}
use Rattle.jc_rules.specs.Examples.Registers.{assign_one}
use Rattle.jc_rules.specs.Refused.{already_applied}
use Rattle.jc_rules.proofs.examples.apply_twice.Goals as goal

pub returns : goal.returns
returns c = already_applied {o = assign_one} refl refl refl
