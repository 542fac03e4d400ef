use Rattle.std.proofs.Common.{◌≡◌, Some, None, sym, ◌∙◌, ap, subst}
use Rattle.jc_rules.specs.Order.{key_cmp}
use Rattle.jc_rules.specs.Entries.{find, put}
use Rattle.jc_rules.specs.Ids.{with_id}
use Rattle.jc_rules.proofs.OrderLemmas.{keys_total, exact_keys}
use Rattle.jc_rules.proofs.EntriesLemmas.{rising-put}
use Rattle.jc_tree.specs.Sorted.{AreSorted}
use Rattle.jc_tree.proofs.NodeLemmas.{on_ok}
use Rattle.jc_tree.proofs.SortedLemmas.{find-standing, find-absent, put-standing}
use Rattle.jc_tree.specs.Tree.{or_no_entries}
use Rattle.jc_tree.proofs.ids.add_to.Goals as goal

pub returns-in-Ok-clause-ok : goal.returns-in-Ok-clause-ok
returns-in-Ok-clause-ok c =
    let es = c.args.sets.now.items in
    let stands = rw c.as_slice.ensures.value at c.in-Ok.ensures in
    let found : find key_cmp c.args.key es ≡ Some c.index_mut.result.now.1 = find-standing keys_total exact_keys _ _ _ _ c.requires stands c.index_mut.ensures.value in
    on_ok _ (λ h. sym (put-standing keys_total exact_keys _ es _ _ c.insert.new.self c.requires stands c.index_mut.ensures.value) ∙ ap (λ v. put key_cmp c.args.key v es) (h ∙ ap (λ o. with_id c.args.id (or_no_entries o)) (sym found))) c.insert.ensures.ok

pub returns-in-Ok-clause-sorted : goal.returns-in-Ok-clause-sorted
returns-in-Ok-clause-sorted c =
    let es = c.args.sets.now.items in
    let stands = rw c.as_slice.ensures.value at c.in-Ok.ensures in
    subst AreSorted (put-standing keys_total exact_keys _ es _ _ c.insert.new.self c.requires stands c.index_mut.ensures.value) (rising-put keys_total exact_keys c.args.key c.insert.new.self es c.requires)

pub returns-in_ok-put_value-in-Err-clause-ok : goal.returns-in_ok-put_value-in-Err-clause-ok
returns-in_ok-put_value-in-Err-clause-ok c =
    let es = c.args.sets.now.items in
    let belongs = rw c.as_slice.ensures.value at c.in-Err.ensures in
    let absent : find key_cmp c.args.key es ≡ None = find-absent keys_total exact_keys c.args.key es _ belongs in
    let ids : c.in_ok-single-in-Err.field-0 ≡ with_id c.args.id (or_no_entries (find key_cmp c.args.key es)) = c.in_ok-single-in-Err.ensures ∙ ap (λ o. with_id c.args.id (or_no_entries o)) (sym absent) in
    c.in_ok-put_value-in-Err.ensures.ok ∙ ap (λ v. put key_cmp c.args.key v es) ids
