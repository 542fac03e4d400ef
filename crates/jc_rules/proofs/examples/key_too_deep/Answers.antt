use Rattle.std.specs.Prelude.{refl}
use Rattle.jc_rules.specs.Refused.{in_command, in_first, get_too_deep}
use Rattle.jc_rules.proofs.ExamplesLemmas.{answered, var}
use Rattle.jc_rules.proofs.examples.key_too_deep.Goals as goal

pub returns : goal.returns
returns c path l = in_command refl (λ e. cc) (in_first refl (get_too_deep (answered (var {n = 0} refl)) (λ e. cc) l))
