use Rattle.std.specs.Prelude.{refl}
use Rattle.std.proofs.Common.{arith}
use Rattle.jc_rules.proofs.ExamplesLemmas.{worked, exec, doc, get, make_assign, make_op, apply_local, descend, child_get, child_reg, assign, clear_none, further_id}
use Rattle.jc_rules.proofs.examples.assignment_over_map.Goals as goal

pub returns : goal.returns
returns c =
    worked
    (exec refl (λ e. cc)
    (make_assign (get doc (λ e. cc) (omega arith)) (make_op (apply_local
    (descend refl (child_get refl)
    (assign refl refl tt (clear_none refl) (further_id (λ e. cc) refl) (child_reg refl))
    (further_id (λ e. cc) refl))))))
    refl refl
