use Rattle.std.specs.Prelude.{refl}
use Rattle.jc_rules.specs.Refused.{in_command, in_first, in_keys, no_map}
use Rattle.jc_rules.proofs.ExamplesLemmas.{answered, doc}
use Rattle.jc_rules.proofs.examples.keys_of_nothing.Goals as goal

pub returns : goal.returns
returns c = in_command refl (λ e. cc) (in_first refl (in_keys (answered (doc {n = 0})) (no_map refl refl)))
