use Rattle.std.specs.Prelude.{refl}
use Rattle.std.proofs.Common.{arith}
use Rattle.jc_rules.proofs.ExamplesLemmas.{worked, exec, doc, idx1, idx2, idx3, idx5, make_delete, make_op, apply_local, descend, child_get, add_id2, delete, clear_register}
use Rattle.jc_rules.proofs.examples.delete_element.Goals as goal

pub returns : goal.returns
returns c =
    worked
    (exec refl (λ e. cc)
    (make_delete (idx1 doc (omega arith) (idx2 refl refl (idx3 refl refl (λ h. h) (idx5 refl)) refl)) (make_op (apply_local
    (descend refl (child_get refl) (delete refl refl (clear_register refl refl refl refl)) add_id2)))))
    refl refl
