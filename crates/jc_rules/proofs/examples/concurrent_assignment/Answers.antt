use Rattle.std.specs.Prelude.{refl}
use Rattle.jc_rules.proofs.ExamplesLemmas.{worked, apply_remote, descend, child_get, assign, clear_reg, further_id}
use Rattle.jc_rules.proofs.examples.concurrent_assignment.Goals as goal

pub returns : goal.returns
returns c =
    worked
    (apply_remote refl refl refl (λ i h. cc)
    (descend refl (child_get refl)
    (assign refl refl tt (clear_reg refl) (further_id (λ e. cc) refl) (child_get refl))
    (further_id (λ e. cc) refl)))
    refl refl
