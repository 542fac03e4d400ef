use Rattle.std.specs.Prelude.{refl}
use Rattle.jc_rules.proofs.ExamplesLemmas.{worked, exec, doc, make_assign, make_op, apply_local, assign_new}
use Rattle.jc_rules.proofs.examples.assignment_of_document.Goals as goal

pub returns : goal.returns
returns c =
    worked
    (exec refl (λ e. cc)
    (make_assign doc (make_op (apply_local (assign_new refl refl tt refl refl refl)))))
    refl refl
