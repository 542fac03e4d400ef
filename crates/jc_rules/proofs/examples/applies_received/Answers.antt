use Rattle.std.specs.Prelude.{refl}
use Rattle.jc_rules.proofs.ExamplesLemmas.{worked, apply_remote, descend, child_map, child_list, empty_list_at, first_id, further_id, clear_nothing}
use Rattle.jc_rules.proofs.examples.applies_received.Goals as goal

pub returns : goal.returns
returns c =
    worked
    (apply_remote refl refl refl (λ i h. cc)
    (descend refl (child_map refl)
    (empty_list_at refl refl (clear_nothing refl refl refl refl) (further_id (λ e. cc) refl) (child_list refl))
    (first_id (λ e. cc) refl)))
    refl refl
