use Rattle.std.specs.Prelude.{refl}
use Rattle.std.proofs.Common.{arith}
use Rattle.jc_rules.specs.Refused.{in_command, in_making, in_made, in_applied, operate_below, not_in_list}
use Rattle.jc_rules.proofs.ExamplesLemmas.{answered, doc, get, child_map}
use Rattle.jc_rules.proofs.examples.insert_in_nothing.Goals as goal

pub returns : goal.returns
returns c = in_command refl (λ e. cc) (in_making refl (answered (get {n = 0} doc (λ e. cc) (omega arith))) (in_made (in_applied (operate_below refl (answered (child_map {n = 0} refl)) (not_in_list refl refl refl)))))
