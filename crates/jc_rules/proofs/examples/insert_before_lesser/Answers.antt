use Rattle.std.specs.Prelude.{refl, [], ◌∷◌}
use Rattle.jc_rules.specs.Examples.{by_a}
use Rattle.jc_rules.proofs.ExamplesLemmas.{worked, apply_remote, descend, child_get, insert1, further_id, assign_new, in_front}
use Rattle.jc_rules.proofs.examples.insert_before_lesser.Goals as goal

pub returns : goal.returns
returns c =
    worked
    (apply_remote refl refl refl (in_front (by_a 1 ∷ []) (by_a 2 ∷ []))
    (descend refl (child_get refl)
    (descend refl (child_get refl)
    (insert1 refl refl refl refl (assign_new refl refl tt refl refl refl))
    (further_id (λ e. cc) refl))
    (further_id (λ e. cc) refl)))
    refl refl
