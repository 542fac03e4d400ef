use Rattle.std.proofs.Common.{◌≡◌, Option, Some, None, sym, ◌∙◌, ap, subst}
use Rattle.jc_rules.specs.declared.key.Key.{Key}
use Rattle.jc_rules.specs.declared.value.Value.{Value}
use Rattle.jc_rules.specs.Order.{id_cmp, key_cmp}
use Rattle.jc_rules.specs.Entries.{find, put}
use Rattle.jc_rules.specs.Context.{Register}
use Rattle.jc_rules.proofs.OrderLemmas.{keys_total, exact_keys}
use Rattle.jc_rules.proofs.EntriesLemmas.{rising-put}
use Rattle.jc_tree.specs.Tree.{or_no_entries}
use Rattle.jc_tree.specs.Sorted.{AreSorted}
use Rattle.jc_tree.specs.Undo.{former_of_value}
use Rattle.jc_tree.specs.declared.node.Former.TheVariants as F
use Rattle.jc_tree.proofs.SortedLemmas.{find-standing, find-absent, put-standing}
use Rattle.jc_tree.proofs.lists.put_to.Goals as goal

pub returns-in_ok-former-in-Ok-clause-ok : goal.returns-in_ok-former-in-Ok-clause-ok
returns-in_ok-former-in-Ok-clause-ok c =
    let es = c.args.registers.now.items in
    let stands = rw c.as_slice.ensures.value at c.in-Ok.ensures in
    let found : find key_cmp c.args.key es ≡ Some c.index_mut.result.now.1 = find-standing keys_total exact_keys _ _ _ _ c.requires stands c.index_mut.ensures.value in
    sym (put-standing keys_total exact_keys _ es _ _ c.put.new.self c.requires stands c.index_mut.ensures.value) ∙ ap (λ (r : Register). put key_cmp c.args.key r es) (c.in_ok-former-in-Ok.ensures.ok ∙ ap (λ (o : Option Register). put id_cmp c.args.id c.args.value (or_no_entries o)) (sym found))

pub returns-in_ok-former-in-Ok-clause-former : goal.returns-in_ok-former-in-Ok-clause-former
returns-in_ok-former-in-Ok-clause-former c =
    let es = c.args.registers.now.items in
    let stands = rw c.as_slice.ensures.value at c.in-Ok.ensures in
    let found : find key_cmp c.args.key es ≡ Some c.index_mut.result.now.1 = find-standing keys_total exact_keys _ _ _ _ c.requires stands c.index_mut.ensures.value in
    ap (λ (o : Option Value). F.Value c.args.key c.args.id o) c.in_ok-former-in-Ok.ensures.former ∙ ap (λ (o : Option Register). former_of_value c.args.key c.args.id o) (sym found)

pub returns-in_ok-former-in-Ok-clause-sorted : goal.returns-in_ok-former-in-Ok-clause-sorted
returns-in_ok-former-in-Ok-clause-sorted c =
    let es = c.args.registers.now.items in
    let stands = rw c.as_slice.ensures.value at c.in-Ok.ensures in
    subst AreSorted (put-standing keys_total exact_keys _ es _ _ c.put.new.self c.requires stands c.index_mut.ensures.value) (rising-put keys_total exact_keys c.args.key c.put.new.self es c.requires)

pub returns-in_ok-put_value-in-Err-clause-ok : goal.returns-in_ok-put_value-in-Err-clause-ok
returns-in_ok-put_value-in-Err-clause-ok c =
    let es = c.args.registers.now.items in
    let belongs = rw c.as_slice.ensures.value at c.in-Err.ensures in
    let absent : find key_cmp c.args.key es ≡ None = find-absent keys_total exact_keys c.args.key es _ belongs in
    let new : c.in_ok-single-in-Err.field-0 ≡ put id_cmp c.args.id c.args.value (or_no_entries (find key_cmp c.args.key es)) = c.in_ok-single-in-Err.ensures ∙ ap (λ (o : Option Register). put id_cmp c.args.id c.args.value (or_no_entries o)) (sym absent) in
    c.in_ok-put_value-in-Err.ensures.ok ∙ ap (λ (r : Register). put key_cmp c.args.key r es) new

pub returns-in_ok-put_value-in-Err-clause-former : goal.returns-in_ok-put_value-in-Err-clause-former
returns-in_ok-put_value-in-Err-clause-former c =
    let es = c.args.registers.now.items in
    let belongs = rw c.as_slice.ensures.value at c.in-Err.ensures in
    let absent : find key_cmp c.args.key es ≡ None = find-absent keys_total exact_keys c.args.key es _ belongs in
    ap (λ (k : Key). F.Register k None) c.in_ok-copy-in-Err.ensures ∙ ap (λ (o : Option Register). former_of_value c.args.key c.args.id o) (sym absent)
