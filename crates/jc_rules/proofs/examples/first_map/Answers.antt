use Rattle.std.specs.Prelude.{refl}
use Rattle.std.proofs.Common.{arith}
use Rattle.jc_rules.proofs.ExamplesLemmas.{worked, exec, doc, get, make_assign, make_op, apply_local, descend, child_map, empty_map, first_id, further_id, clear_nothing}
use Rattle.jc_rules.proofs.examples.first_map.Goals as goal

pub returns : goal.returns
returns c =
    worked
    (exec refl (λ e. cc)
    (make_assign (get doc (λ e. cc) (omega arith)) (make_op (apply_local
    (descend refl (child_map refl)
    (empty_map refl refl (clear_nothing refl refl refl refl) (further_id (λ e. cc) refl) (child_map refl))
    (first_id (λ e. cc) refl))))))
    refl refl
