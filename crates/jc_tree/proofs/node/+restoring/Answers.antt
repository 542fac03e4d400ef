use Rattle.std.proofs.Common.{◌≡◌, ◌∷◌, Some, slice_set, sym, ◌∙◌, ap, subst}
use Rattle.jc_rules.specs.declared.key.Tagged.TheVariants.{MapT, ListT}
use Rattle.jc_rules.specs.Order.{key_cmp}
use Rattle.jc_rules.specs.Entries.{find}
use Rattle.jc_rules.proofs.OrderLemmas.{keys_total, exact_keys}
use Rattle.jc_rules.proofs.EntriesLemmas.{rising-put}
use Rattle.jc_tree.specs.Sorted.{AreSorted}
use Rattle.jc_tree.specs.Undo.{restored_by, restored_at}
use Rattle.jc_tree.proofs.NodeLemmas.{map_changed, list_changed, child_changed}
use Rattle.jc_tree.proofs.SortedLemmas.{find-standing, find-absent, put-standing}
use Rattle.jc_tree.proofs.node.+restoring.Goals as goal
use Rattle.jc_rules.proofs.ContextLemmas.{none_some}

pub Node::restore_at-returns-in-MapT : goal.Node::restore_at-returns-in-MapT
Node::restore_at-returns-in-MapT t c =
    let cut : c.args.at.now ≡ MapT c.in-MapT.key ∷ c.in-Some.rest.now = c.in-Some.ensures.cases.0 ∙ ap (λ k. k ∷ c.in-Some.rest.now) c.in-MapT.is in
    rw cut (map_changed _ _ _ _ _ _ c.self.view_is c.in-MapT.key c.in-Some.rest.now (restored_by c.args.former) c.restore_in.new.children.items c.restore_in.ensures.found c.restore_in.ensures.absent)

pub Node::restore_at-returns-in-ListT : goal.Node::restore_at-returns-in-ListT
Node::restore_at-returns-in-ListT t c =
    let cut : c.args.at.now ≡ ListT c.in-ListT.key ∷ c.in-Some.rest.now = c.in-Some.ensures.cases.0 ∙ ap (λ k. k ∷ c.in-Some.rest.now) c.in-ListT.is in
    rw cut (list_changed _ _ _ _ _ _ c.self.view_is c.in-ListT.key c.in-Some.rest.now (restored_by c.args.former) c.restore_in-in-ListT.new.children.items c.restore_in-in-ListT.ensures.found c.restore_in-in-ListT.ensures.absent)

-- the child that stands at the key's place
pub restore_in-returns-in-Ok-clause-found : goal.restore_in-returns-in-Ok-clause-found
restore_in-returns-in-Ok-clause-found t c =
    let entries = c.args.children.now.items in
    let entry = c.index_mut.result.now in
    let stands = rw c.as_slice.ensures.value at c.in-Ok.ensures in
    let child : find key_cmp c.args.key.now entries ≡ Some entry.1 = find-standing keys_total exact_keys _ _ _ _ c.requires.sorted stands c.index_mut.ensures.value in
    child_changed c.args.key.now (restored_at c.args.at.now c.args.former) entries (λ x. slice_set entries c.in-Ok.i (entry.0, x)) entry.1 c.restore_at.new.self child (λ x. sym (put-standing keys_total exact_keys _ _ _ entry x c.requires.sorted stands c.index_mut.ensures.value)) c.restore_at.ensures

pub restore_in-returns-in-Ok-clause-absent : goal.restore_in-returns-in-Ok-clause-absent
restore_in-returns-in-Ok-clause-absent t c =
    let stands = rw c.as_slice.ensures.value at c.in-Ok.ensures in
    let child : find key_cmp c.args.key.now c.args.children.now.items ≡ Some c.index_mut.result.now.1 = find-standing keys_total exact_keys _ _ _ _ c.requires.sorted stands c.index_mut.ensures.value in
    λ e. none_some (sym e ∙ child)

pub restore_in-returns-in-Ok-clause-still_sorted : goal.restore_in-returns-in-Ok-clause-still_sorted
restore_in-returns-in-Ok-clause-still_sorted t c =
    let stands = rw c.as_slice.ensures.value at c.in-Ok.ensures in
    subst AreSorted (put-standing keys_total exact_keys _ _ _ _ c.restore_at.new.self c.requires.sorted stands c.index_mut.ensures.value) (rising-put keys_total exact_keys c.args.key.now c.restore_at.new.self c.args.children.now.items c.requires.sorted)

pub restore_in-returns-in-Err-clause-found : goal.restore_in-returns-in-Err-clause-found
restore_in-returns-in-Err-clause-found t c =
    let belongs = rw c.as_slice.ensures.value at c.in-Err.ensures in
    rw (find-absent keys_total exact_keys _ _ _ belongs) tt
