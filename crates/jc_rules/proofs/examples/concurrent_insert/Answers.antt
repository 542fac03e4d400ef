use Rattle.std.specs.Prelude.{refl, [], ◌∷◌}
use Rattle.jc_rules.specs.Examples.{by_a, by_b}
use Rattle.jc_rules.proofs.ExamplesLemmas.{worked, apply_remote, descend, child_get, insert1, insert2, further_id, assign_new, in_front}
use Rattle.jc_rules.proofs.examples.concurrent_insert.Goals as goal

pub returns : goal.returns
returns c =
    worked
    (apply_remote refl refl refl (in_front (by_a 1 ∷ []) (by_b 2 ∷ []))
    (descend refl (child_get refl)
    (descend refl (child_get refl)
    (insert2 refl refl refl refl (insert1 refl refl refl tt (assign_new refl refl tt refl refl refl)))
    (further_id (λ e. cc) refl))
    (further_id (λ e. cc) refl)))
    refl refl
