use Rattle.std.specs.Prelude.{refl}
use Rattle.jc_rules.proofs.ExamplesLemmas.{worked, exec, var, make_delete, make_op, apply_local, descend, child_get, add_id2, delete, clear_register}
use Rattle.jc_rules.proofs.examples.register_deleted.Goals as goal

pub returns : goal.returns
returns c =
    worked
    (exec refl (λ e. cc)
    (make_delete (var refl) (make_op (apply_local
    (descend refl (child_get refl) (delete refl refl (clear_register refl refl refl refl)) add_id2)))))
    refl refl
