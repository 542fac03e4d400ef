use Rattle.std.specs.Prelude.{refl}
use Rattle.std.proofs.Common.{arith}
use Rattle.jc_rules.specs.Refused.{in_command, in_first, in_keys, keys_below, keys_no_node}
use Rattle.jc_rules.proofs.ExamplesLemmas.{answered, doc, get}
use Rattle.jc_rules.proofs.examples.keys_below_register.Goals as goal

pub returns : goal.returns
returns c =
    in_command refl (λ e. cc)
    (in_first refl
    (in_keys (answered (get {n = 0} (get doc (λ e. cc) (omega arith)) (λ e. cc) (omega arith)))
    (keys_below refl refl (keys_no_node refl refl))))
