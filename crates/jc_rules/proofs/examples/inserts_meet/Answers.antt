use Rattle.std.specs.Prelude.{refl, [], ◌∷◌}
use Rattle.std.proofs.Common.{arith}
use Rattle.jc_rules.specs.Examples.{by_a, by_b}
use Rattle.jc_rules.specs.Examples.Schedules.{meeting, inserting, inserted}
use Rattle.jc_rules.proofs.ExamplesLemmas.{Runs, then, over, exec, doc, get, idx1, idx2, idx5, make_assign, make_insert, make_op, apply_local, send, recv, apply_remote, done, descend, child_get, child_map, child_list, empty_list_at, insert1, insert2, first_id, further_id, clear_nothing, assign_new, in_front}
use Rattle.jc_rules.proofs.examples.inserts_meet.Goals as goal

whole : Runs inserting meeting inserted
whole =
    (then refl refl (exec refl (λ e. cc)
    (make_assign (get doc (λ e. cc) (omega arith)) (make_op (apply_local
    (descend refl (child_map refl) (empty_list_at refl refl (clear_nothing refl refl refl refl) (further_id (λ e. cc) refl) (child_list refl)) (first_id (λ e. cc) refl))))))
    (then refl refl (send refl)
    (then refl refl (done refl refl)
    (then refl refl (recv refl)
    (then refl refl (apply_remote refl refl refl (λ i h. cc)
    (descend refl (child_map refl) (empty_list_at refl refl (clear_nothing refl refl refl refl) (further_id (λ e. cc) refl) (child_list refl)) (first_id (λ e. cc) refl)))
    (then refl refl (done refl refl)
    (then refl refl (exec refl (λ e. cc)
    (make_insert (idx1 (get doc (λ e. cc) (omega arith)) (omega arith) (idx2 refl refl (idx2 refl refl (idx5 refl) refl) refl)) (make_op (apply_local
    (descend refl (child_get refl)
    (descend refl (child_get refl) (insert1 refl refl refl tt (assign_new refl refl tt refl refl refl)) (further_id (λ e. cc) refl))
    (further_id (λ e. cc) refl))))))
    (then refl refl (exec refl (λ e. cc)
    (make_insert (idx1 (get doc (λ e. cc) (omega arith)) (omega arith) (idx2 refl refl (idx2 refl refl (idx5 refl) refl) refl)) (make_op (apply_local
    (descend refl (child_get refl)
    (descend refl (child_get refl) (insert1 refl refl refl tt (assign_new refl refl tt refl refl refl)) (further_id (λ e. cc) refl))
    (further_id (λ e. cc) refl))))))
    (then refl refl (send refl)
    (then refl refl (send refl)
    (then refl refl (recv refl)
    (then refl refl (recv refl)
    (then refl refl (apply_remote refl refl refl (in_front (by_a 1 ∷ []) (by_a 2 ∷ []))
    (descend refl (child_get refl)
    (descend refl (child_get refl)
    (insert1 refl refl refl refl (assign_new refl refl tt refl refl refl))
    (further_id (λ e. cc) refl))
    (further_id (λ e. cc) refl)))
    (then refl refl (apply_remote refl refl refl (in_front (by_a 1 ∷ []) (by_b 2 ∷ []))
    (descend refl (child_get refl)
    (descend refl (child_get refl)
    (insert2 refl refl refl refl (insert1 refl refl refl tt (assign_new refl refl tt refl refl refl)))
    (further_id (λ e. cc) refl))
    (further_id (λ e. cc) refl)))
    (over refl)))))))))))))))

pub returns : goal.returns
returns c = whole.is
