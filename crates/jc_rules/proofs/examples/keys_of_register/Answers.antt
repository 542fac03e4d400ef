use Rattle.std.specs.Prelude.{refl}
use Rattle.std.proofs.Common.{arith}
use Rattle.jc_rules.specs.Refused.{in_command, in_first, in_keys, keys_below, no_map}
use Rattle.jc_rules.proofs.ExamplesLemmas.{answered, doc, get}
use Rattle.jc_rules.proofs.examples.keys_of_register.Goals as goal

pub returns : goal.returns
returns c = in_command refl (λ e. cc) (in_first refl (in_keys (answered (get {n = 0} doc (λ e. cc) (omega arith))) (keys_below refl refl (no_map refl refl))))
