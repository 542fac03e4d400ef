use Rattle.std.specs.Prelude.{refl}
use Rattle.std.proofs.Common.{arith}
use Rattle.jc_rules.specs.Refused.{in_command, in_first, in_index, index_below, in_passed, in_counted, past_end}
use Rattle.jc_rules.proofs.ExamplesLemmas.{answered, doc}
use Rattle.jc_rules.proofs.examples.index_past_end.Goals as goal

pub returns : goal.returns
returns c = in_command refl (λ e. cc) (in_first refl (in_index (answered (doc {n = 0})) (omega arith) (index_below refl refl (in_passed refl refl tt (in_counted refl refl (λ h. h) (past_end refl (λ j e. cc)))))))
