use Rattle.std.specs.Prelude.{refl}
use Rattle.std.proofs.Common.{arith}
use Rattle.jc_rules.proofs.ExamplesLemmas.{worked, exec, doc, get, idx1, idx2, idx5, make_insert, make_op, apply_local, descend, child_get, insert1, further_id, assign_new}
use Rattle.jc_rules.proofs.examples.insert_later.Goals as goal

pub returns : goal.returns
returns c =
    worked
    (exec refl (λ e. cc)
    (make_insert (idx1 (get doc (λ e. cc) (omega arith)) (omega arith) (idx2 refl refl (idx2 refl refl (idx5 refl) refl) refl)) (make_op (apply_local
    (descend refl (child_get refl)
    (descend refl (child_get refl) (insert1 refl refl refl refl (assign_new refl refl tt refl refl refl)) (further_id (λ e. cc) refl))
    (further_id (λ e. cc) refl))))))
    refl refl
