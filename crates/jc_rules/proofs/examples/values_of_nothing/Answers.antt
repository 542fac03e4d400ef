use Rattle.std.specs.Prelude.{refl}
use Rattle.jc_rules.specs.Refused.{in_command, in_first, in_values, no_register}
use Rattle.jc_rules.proofs.ExamplesLemmas.{answered, doc}
use Rattle.jc_rules.proofs.examples.values_of_nothing.Goals as goal

pub returns : goal.returns
returns c = in_command refl (λ e. cc) (in_first refl (in_values (answered (doc {n = 0})) (no_register refl refl)))
