use Rattle.std.specs.Prelude.{refl}
use Rattle.std.proofs.Common.{arith}
use Rattle.jc_rules.proofs.ExamplesLemmas.{worked, exec, doc, get, make_delete, make_op, apply_local, descend, child_map, add_id2, delete, clear_nothing}
use Rattle.jc_rules.proofs.examples.nothing_deleted.Goals as goal

pub returns : goal.returns
returns c =
    worked
    (exec refl (λ e. cc)
    (make_delete (get (get doc (λ e. cc) (omega arith)) (λ e. cc) (omega arith)) (make_op (apply_local
    (descend refl (child_map refl)
    (descend refl (child_map refl) (delete refl refl (clear_nothing refl refl refl refl)) add_id2)
    add_id2)))))
    refl refl
