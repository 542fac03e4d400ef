use Rattle.std.specs.Prelude.{refl}
use Rattle.std.proofs.Common.{arith}
use Rattle.jc_rules.specs.Refused.{in_command, in_first, in_values, values_no_node}
use Rattle.jc_rules.proofs.ExamplesLemmas.{answered, doc, get}
use Rattle.jc_rules.proofs.examples.values_in_nothing.Goals as goal

pub returns : goal.returns
returns c = in_command refl (λ e. cc) (in_first refl (in_values (answered (get {n = 0} doc (λ e. cc) (omega arith))) (values_no_node refl refl)))
