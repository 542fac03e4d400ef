use Rattle.std.specs.Prelude.{refl, [], ◌∷◌}
use Rattle.std.proofs.Common.{arith}
use Rattle.jc_rules.specs.Examples.{by_a, by_b}
use Rattle.jc_rules.specs.Examples.Schedules.{meeting, deleting_map, deleted_map}
use Rattle.jc_rules.proofs.ExamplesLemmas.{Runs, then, over, exec, doc, get, make_assign, make_delete, make_op, apply_local, send, recv, apply_remote, done, descend, child_get, child_map, add_id2, presence1, empty_map, delete, clear_elem, clear_any, clear_none, clear_map1, clear_map2, clear_map3, first_id, further_id, clear_nothing, clear_register, assign_new, in_front}
use Rattle.jc_rules.proofs.examples.map_deletion_meets.Goals as goal

whole : Runs deleting_map meeting deleted_map
whole =
    (then refl refl (exec refl (λ e. cc)
    (make_assign (get doc (λ e. cc) (omega arith)) (make_op (apply_local
    (descend refl (child_map refl) (empty_map refl refl (clear_nothing refl refl refl refl) (further_id (λ e. cc) refl) (child_map refl)) (first_id (λ e. cc) refl))))))
    (then refl refl (send refl)
    (then refl refl (done refl refl)
    (then refl refl (recv refl)
    (then refl refl (apply_remote refl refl refl (λ i h. cc)
    (descend refl (child_map refl) (empty_map refl refl (clear_nothing refl refl refl refl) (further_id (λ e. cc) refl) (child_map refl)) (first_id (λ e. cc) refl)))
    (then refl refl (done refl refl)
    (then refl refl (exec refl (λ e. cc)
    (make_delete (get doc (λ e. cc) (omega arith)) (make_op (apply_local
    (descend refl (child_get refl)
    (delete refl refl (clear_elem (clear_any (clear_map1 refl (clear_map3 refl)) (clear_none refl) (clear_none refl)) (presence1 refl)))
    add_id2)))))
    (then refl refl (exec refl (λ e. cc)
    (make_assign (get (get doc (λ e. cc) (omega arith)) (λ e. cc) (omega arith)) (make_op (apply_local
    (descend refl (child_get refl) (descend refl (child_get refl) (assign_new refl refl tt refl refl refl) (further_id (λ e. cc) refl)) (further_id (λ e. cc) refl))))))
    (then refl refl (send refl)
    (then refl refl (send refl)
    (then refl refl (recv refl)
    (then refl refl (recv refl)
    (then refl refl (apply_remote refl refl refl (in_front (by_a 1 ∷ []) (by_a 2 ∷ []))
    (descend refl (child_get refl)
    (descend refl (child_get refl) (assign_new refl refl tt refl refl refl) (further_id (λ e. cc) refl))
    (further_id (λ e. cc) refl)))
    (then refl refl (apply_remote refl refl refl (in_front (by_a 1 ∷ []) (by_b 2 ∷ []))
    (descend refl (child_get refl)
    (delete refl refl (clear_elem
    (clear_any (clear_map1 refl (clear_map2 refl (clear_register refl refl refl refl) (clear_map3 refl))) (clear_none refl) (clear_none refl))
    (presence1 refl)))
    add_id2))
    (over refl)))))))))))))))

pub returns : goal.returns
returns c = whole.is
