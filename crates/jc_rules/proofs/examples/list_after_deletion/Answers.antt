use Rattle.std.specs.Prelude.{refl, [], ◌∷◌}
use Rattle.jc_rules.specs.Examples.{by_a}
use Rattle.jc_rules.proofs.ExamplesLemmas.{worked, apply_remote, descend, child_get, child_list, empty_list_at, further_id, clear_register, in_front}
use Rattle.jc_rules.proofs.examples.list_after_deletion.Goals as goal

pub returns : goal.returns
returns c =
    worked
    (apply_remote refl refl refl (in_front (by_a 1 ∷ []) (by_a 2 ∷ []))
    (descend refl (child_get refl)
    (empty_list_at refl refl (clear_register refl refl refl refl) (further_id (λ e. cc) refl) (child_list refl))
    (further_id (λ e. cc) refl)))
    refl refl
