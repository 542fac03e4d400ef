use Rattle.std.proofs.Common.{◌≡◌, Option, Some, sym, ◌∙◌, ap, subst}
use Rattle.jc_rules.specs.Order.{key_cmp}
use Rattle.jc_rules.specs.Entries.{find, put}
use Rattle.jc_rules.specs.Context.{Register}
use Rattle.jc_rules.proofs.OrderLemmas.{keys_total, exact_keys}
use Rattle.jc_rules.proofs.EntriesLemmas.{rising-put}
use Rattle.jc_tree.specs.Sorted.{AreSorted}
use Rattle.jc_tree.specs.Undo.{restored_value}
use Rattle.jc_tree.proofs.SortedLemmas.{find-standing, find-absent, put-standing}
use Rattle.jc_tree.proofs.lists.restore_from.Goals as goal

pub returns-in-Ok-clause-ok : goal.returns-in-Ok-clause-ok
returns-in-Ok-clause-ok c =
    let es = c.args.registers.now.items in
    let stands = rw c.as_slice.ensures.value at c.in-Ok.ensures in
    let found : find key_cmp c.args.key.now es ≡ Some c.index_mut.result.now.1 = find-standing keys_total exact_keys _ _ _ _ c.requires stands c.index_mut.ensures.value in
    sym (put-standing keys_total exact_keys c.args.key.now es c.in-Ok.i c.index_mut.result.now c.restore.new.self c.requires stands c.index_mut.ensures.value)
    ∙ ap (λ (r : Register). put key_cmp c.args.key.now r es) c.restore.ensures
    ∙ ap (λ (o : Option Register). restored_value c.args.key.now c.args.id c.args.former o es) (sym found)

pub returns-in-Ok-clause-sorted : goal.returns-in-Ok-clause-sorted
returns-in-Ok-clause-sorted c =
    let es = c.args.registers.now.items in
    let stands = rw c.as_slice.ensures.value at c.in-Ok.ensures in
    subst AreSorted (put-standing keys_total exact_keys _ es _ _ c.restore.new.self c.requires stands c.index_mut.ensures.value) (rising-put keys_total exact_keys c.args.key.now c.restore.new.self es c.requires)

pub returns-in_default-clause-ok : goal.returns-in_default-clause-ok
returns-in_default-clause-ok c =
    let es = c.args.registers.now.items in
    let belongs = rw c.as_slice.ensures.value at c.in_default.ensures in
    ap (λ (o : Option Register). restored_value c.args.key.now c.args.id c.args.former o es) (sym (find-absent keys_total exact_keys c.args.key.now es _ belongs))
