use Rattle.std.proofs.Common.{◌≡◌, Some, sym, ap, subst}
use Rattle.jc_rules.specs.Order.{key_cmp}
use Rattle.jc_rules.specs.Entries.{find}
use Rattle.jc_rules.proofs.OrderLemmas.{keys_total, exact_keys}
use Rattle.jc_rules.proofs.EntriesLemmas.{rising-put}
use Rattle.jc_tree.specs.Sorted.{AreSorted}
use Rattle.jc_tree.proofs.SortedLemmas.{find-standing, find-absent, put-standing}
use Rattle.jc_tree.specs.Undo.{taken_out, out_of_set}
use Rattle.jc_tree.proofs.ids.take_from.Goals as goal

pub returns-in-Ok-clause-ok : goal.returns-in-Ok-clause-ok
returns-in-Ok-clause-ok c =
    let es = c.args.sets.now.items in
    let stands = rw c.as_slice.ensures.value at c.in-Ok.ensures in
    let found : find key_cmp c.args.key.now es ≡ Some c.index_mut.result.now.1 = find-standing keys_total exact_keys _ _ _ _ c.requires stands c.index_mut.ensures.value in
    rw (found, c.take_out.ensures) (sym (put-standing keys_total exact_keys c.args.key.now es c.in-Ok.i c.index_mut.result.now (taken_out c.args.id c.index_mut.result.now.1) c.requires stands c.index_mut.ensures.value))

pub returns-in-Ok-clause-sorted : goal.returns-in-Ok-clause-sorted
returns-in-Ok-clause-sorted c =
    let es = c.args.sets.now.items in
    let stands = rw c.as_slice.ensures.value at c.in-Ok.ensures in
    subst AreSorted (put-standing keys_total exact_keys _ es _ _ c.take_out.new.self c.requires stands c.index_mut.ensures.value) (rising-put keys_total exact_keys c.args.key.now c.take_out.new.self es c.requires)

pub returns-in_default-clause-ok : goal.returns-in_default-clause-ok
returns-in_default-clause-ok c =
    let es = c.args.sets.now.items in
    let belongs = rw c.as_slice.ensures.value at c.in_default.ensures in
    ap (λ o. out_of_set c.args.key.now c.args.id o es) (sym (find-absent keys_total exact_keys c.args.key.now es _ belongs))
