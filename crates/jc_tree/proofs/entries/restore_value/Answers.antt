use Rattle.std.proofs.Common.{◌<◌, length, sym, subst, ◌∙◌}
use Rattle.jc_rules.specs.Order.{key_cmp}
use Rattle.jc_rules.proofs.OrderLemmas.{keys_total, exact_keys}
use Rattle.jc_rules.proofs.EntriesLemmas.{rising-put}
use Rattle.jc_tree.specs.Sorted.{AreSorted}
use Rattle.jc_tree.proofs.SortedLemmas.{standing_within, put-standing, replaced-standing, removed-standing, restored-absent, sorted_left}
use Rattle.jc_tree.proofs.entries.restore_value.Goals as goal

pub returns-in_default-clause-ok : goal.returns-in_default-clause-ok
returns-in_default-clause-ok g c = sym (restored-absent keys_total exact_keys _ _ c.in_default.field-0 _ (rw c.as_slice.ensures.value at c.in_default.ensures))

pub index_mut-requires : goal.index_mut-requires
index_mut-requires g c =
    let within : c.in-Ok.i < length c.as_slice.result.now = standing_within _ _ _ c.in-Ok.ensures in
    rw c.as_slice.ensures.len at within

pub remove-requires : goal.remove-requires
remove-requires g c =
    let within : c.in-Ok.i < length c.as_slice.result.now = standing_within _ _ _ c.in-Ok.ensures in
    rw c.as_slice.ensures.len at within

pub returns-in-Some-clause-ok : goal.returns-in-Some-clause-ok
returns-in-Some-clause-ok g c =
    let stands = rw c.as_slice.ensures.value at c.in-Ok.ensures in
    rw c.in-Some.is (sym (replaced-standing keys_total exact_keys _ _ _ _ c.in-Some.value c.requires stands c.index_mut.ensures.value))

pub returns-in-Some-clause-sorted : goal.returns-in-Some-clause-sorted
returns-in-Some-clause-sorted g c =
    let stands = rw c.as_slice.ensures.value at c.in-Ok.ensures in
    subst AreSorted (put-standing keys_total exact_keys _ _ _ _ c.in-Some.value c.requires stands c.index_mut.ensures.value) (rising-put keys_total exact_keys c.args.key.now c.in-Some.value c.args.entries.now.items c.requires)

pub returns-in-None-clause-ok : goal.returns-in-None-clause-ok
returns-in-None-clause-ok g c =
    let stands = rw c.as_slice.ensures.value at c.in-Ok.ensures in
    rw c.in-None.is (c.remove.ensures.items ∙ sym (removed-standing keys_total exact_keys _ _ _ c.requires stands))

pub returns-in-None-clause-sorted : goal.returns-in-None-clause-sorted
returns-in-None-clause-sorted g c = rw c.remove.ensures.items (sorted_left key_cmp c.args.entries.now.items c.in-Ok.i c.requires)
