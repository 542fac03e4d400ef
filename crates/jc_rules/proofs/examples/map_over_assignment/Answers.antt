use Rattle.std.specs.Prelude.{refl}
use Rattle.std.proofs.Common.{arith}
use Rattle.jc_rules.proofs.ExamplesLemmas.{worked, exec, doc, get, make_assign, make_op, apply_local, descend, child_get, child_map, empty_map, further_id, clear_register}
use Rattle.jc_rules.proofs.examples.map_over_assignment.Goals as goal

pub returns : goal.returns
returns c =
    worked
    (exec refl (λ e. cc)
    (make_assign (get doc (λ e. cc) (omega arith)) (make_op (apply_local
    (descend refl (child_get refl)
    (empty_map refl refl (clear_register refl refl refl refl) (further_id (λ e. cc) refl) (child_map refl))
    (further_id (λ e. cc) refl))))))
    refl refl
