use Rattle.std.specs.Prelude.{refl}
use Rattle.std.proofs.Common.{arith}
use Rattle.jc_rules.proofs.ExamplesLemmas.{worked, exec, doc, get, make_delete, make_op, apply_local, descend, child_get, add_id2, presence1, delete, clear_elem, clear_any, clear_none, clear_map1, clear_map2, clear_map3, clear_register}
use Rattle.jc_rules.proofs.examples.map_of_two_deleted.Goals as goal

pub returns : goal.returns
returns c =
    worked
    (exec refl (λ e. cc)
    (make_delete (get doc (λ e. cc) (omega arith)) (make_op (apply_local
    (descend refl (child_get refl)
    (delete refl refl (clear_elem
    (clear_any
    (clear_map1 refl (clear_map2 refl
    (clear_elem (clear_any (clear_map1 refl (clear_map3 refl)) (clear_none refl) (clear_none refl)) (presence1 refl))
    (clear_map2 refl (clear_register refl refl refl refl) (clear_map3 refl))))
    (clear_none refl)
    (clear_none refl))
    (presence1 refl)))
    add_id2)))))
    refl refl
