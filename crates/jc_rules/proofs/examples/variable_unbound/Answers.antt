use Rattle.std.specs.Prelude.{refl}
use Rattle.jc_rules.specs.Refused.{in_command, in_first, unbound}
use Rattle.jc_rules.proofs.examples.variable_unbound.Goals as goal

pub returns : goal.returns
returns c = in_command refl (λ e. cc) (in_first refl (unbound refl))
