use Rattle.std.specs.Prelude.{refl, [], ◌∷◌}
use Rattle.std.proofs.Common.{arith}
use Rattle.jc_rules.specs.Examples.{by_a, by_b}
use Rattle.jc_rules.specs.Examples.Schedules.{meeting, deleting_list, deleted_list}
use Rattle.jc_rules.proofs.ExamplesLemmas.{Runs, then, over, exec, doc, get, make_assign, make_delete, make_op, apply_local, send, recv, apply_remote, done, descend, child_get, child_map, child_list, add_id2, presence1, empty_list_at, delete, clear_elem, clear_any, clear_none, clear_reg, clear_list1, clear_list2, clear_list3, first_id, further_id, clear_nothing, clear_register, assign_new, in_front}
use Rattle.jc_rules.proofs.examples.list_deletion_meets.Goals as goal

whole : Runs deleting_list meeting deleted_list
whole =
    (then refl refl (exec refl (λ e. cc)
    (make_assign (get doc (λ e. cc) (omega arith)) (make_op (apply_local
    (descend refl (child_map refl) (assign_new refl refl tt refl refl refl) (first_id (λ e. cc) refl))))))
    (then refl refl (send refl)
    (then refl refl (done refl refl)
    (then refl refl (recv refl)
    (then refl refl (apply_remote refl refl refl (λ i h. cc)
    (descend refl (child_map refl) (assign_new refl refl tt refl refl refl) (first_id (λ e. cc) refl)))
    (then refl refl (done refl refl)
    (then refl refl (exec refl (λ e. cc)
    (make_delete (get doc (λ e. cc) (omega arith)) (make_op (apply_local
    (descend refl (child_get refl) (delete refl refl (clear_register refl refl refl refl)) add_id2)))))
    (then refl refl (exec refl (λ e. cc)
    (make_assign (get doc (λ e. cc) (omega arith)) (make_op (apply_local
    (descend refl (child_get refl)
    (empty_list_at refl refl (clear_register refl refl refl refl) (further_id (λ e. cc) refl) (child_list refl))
    (further_id (λ e. cc) refl))))))
    (then refl refl (send refl)
    (then refl refl (send refl)
    (then refl refl (recv refl)
    (then refl refl (recv refl)
    (then refl refl (apply_remote refl refl refl (in_front (by_a 1 ∷ []) (by_a 2 ∷ []))
    (descend refl (child_get refl)
    (empty_list_at refl refl (clear_register refl refl refl refl) (further_id (λ e. cc) refl) (child_list refl))
    (further_id (λ e. cc) refl)))
    (then refl refl (apply_remote refl refl refl (in_front (by_a 1 ∷ []) (by_b 2 ∷ []))
    (descend refl (child_get refl)
    (delete refl refl (clear_elem
    (clear_any (clear_none refl) (clear_list1 refl (clear_list2 refl (clear_nothing refl refl refl refl) clear_list3)) (clear_reg refl))
    (presence1 refl)))
    add_id2))
    (over refl)))))))))))))))

pub returns : goal.returns
returns c = whole.is
