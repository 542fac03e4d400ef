use Rattle.std.specs.Prelude.{refl}
use Rattle.std.proofs.Common.{arith}
use Rattle.jc_rules.specs.Refused.{in_command, in_first, get_on_head}
use Rattle.jc_rules.proofs.ExamplesLemmas.{answered, doc, idx1, idx2, idx5}
use Rattle.jc_rules.proofs.examples.key_of_head.Goals as goal

pub returns : goal.returns
returns c = in_command refl (λ e. cc) (in_first refl (get_on_head (answered (idx1 {n = 0} doc (omega arith) (idx2 refl refl (idx5 refl) refl))) refl))
