use Rattle.std.specs.Prelude.{refl}
use Rattle.jc_rules.proofs.ExamplesLemmas.{worked, exec, doc, make_delete, make_op, apply_local, presence1, delete, clear_elem, clear_any, clear_none, clear_list1, clear_list2, clear_list3, clear_nothing, clear_register}
use Rattle.jc_rules.proofs.examples.whole_list_deleted.Goals as goal

pub returns : goal.returns
returns c =
    worked
    (exec refl (λ e. cc)
    (make_delete doc (make_op (apply_local
    (delete refl refl (clear_elem
    (clear_any
    (clear_none refl)
    (clear_list1 refl (clear_list2 refl (clear_nothing refl refl refl refl) (clear_list2 refl (clear_register refl refl refl refl) (clear_list2 refl (clear_register refl refl refl refl) clear_list3))))
    (clear_none refl))
    (presence1 refl)))))))
    refl refl
