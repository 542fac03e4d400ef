use Rattle.std.specs.Prelude.{refl}
use Rattle.jc_rules.proofs.ExamplesLemmas.{worked, exec, doc, make_assign, make_op, apply_local, child_list, empty_list_at, further_id, clear_nothing}
use Rattle.jc_rules.proofs.examples.first_list.Goals as goal

pub returns : goal.returns
returns c =
    worked
    (exec refl (λ e. cc)
    (make_assign doc (make_op (apply_local
    (empty_list_at refl refl (clear_nothing refl refl refl refl) (further_id (λ e. cc) refl) (child_list refl))))))
    refl refl
