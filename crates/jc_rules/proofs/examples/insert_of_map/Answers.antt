use Rattle.std.specs.Prelude.{refl}
use Rattle.std.proofs.Common.{arith}
use Rattle.jc_rules.proofs.ExamplesLemmas.{worked, exec, doc, idx1, idx2, idx5, make_insert, make_op, apply_local, descend, child_get, child_map, insert1, empty_map, further_id, clear_nothing}
use Rattle.jc_rules.proofs.examples.insert_of_map.Goals as goal

pub returns : goal.returns
returns c =
    worked
    (exec refl (λ e. cc)
    (make_insert (idx1 doc (omega arith) (idx2 refl refl (idx5 refl) refl)) (make_op (apply_local
    (descend refl (child_get refl)
    (insert1 refl refl refl tt
    (empty_map refl refl (clear_nothing refl refl refl refl) (further_id (λ e. cc) refl) (child_map refl)))
    (further_id (λ e. cc) refl))))))
    refl refl
