use Rattle.std.specs.Prelude.{refl}
use Rattle.std.proofs.Common.{arith}
use Rattle.jc_rules.proofs.ExamplesLemmas.{worked, exec, doc, get, make_assign, make_op, apply_local, descend, child_map, first_id, assign_new}
use Rattle.jc_rules.proofs.examples.first_assignment.Goals as goal

pub returns : goal.returns
returns c =
    worked
    (exec refl (λ e. cc)
    (make_assign (get doc (λ e. cc) (omega arith)) (make_op (apply_local
    (descend refl (child_map refl) (assign_new refl refl tt refl refl refl) (first_id (λ e. cc) refl))))))
    refl refl
