use Rattle.std.specs.Prelude.{refl, [], ◌∷◌}
use Rattle.jc_rules.specs.Examples.{by_a, by_b}
use Rattle.jc_rules.proofs.ExamplesLemmas.{worked, apply_remote, descend, child_get, add_id2, presence1, delete, clear_elem, clear_any, clear_none, clear_reg, clear_list1, clear_list2, clear_list3, clear_nothing, in_front}
use Rattle.jc_rules.proofs.examples.list_deletion.Goals as goal

pub returns : goal.returns
returns c =
    worked
    (apply_remote refl refl refl (in_front (by_a 1 ∷ []) (by_b 2 ∷ []))
    (descend refl (child_get refl)
    (delete refl refl (clear_elem
    (clear_any (clear_none refl) (clear_list1 refl (clear_list2 refl (clear_nothing refl refl refl refl) clear_list3)) (clear_reg refl))
    (presence1 refl)))
    add_id2))
    refl refl
