use Rattle.std.proofs.Common.{Some, sym, ap, ◌∙◌}
use Rattle.jc_rules.proofs.OrderLemmas.{keys_total, exact_keys}
use Rattle.jc_rules.proofs.EntriesLemmas.{rising-put}
use Rattle.jc_tree.proofs.SortedLemmas.{find-standing, find-absent, put-standing, put-absent}
use Rattle.jc_tree.proofs.entries.put_value.Goals as goal

pub returns-in-Ok-clause-ok : goal.returns-in-Ok-clause-ok
returns-in-Ok-clause-ok g c =
    let stands = rw c.as_slice.ensures.value at c.in-Ok.ensures in
    rw c.replace.ensures.after (sym (put-standing keys_total exact_keys c.args.key c.args.entries.now.items c.in-Ok.i c.index_mut.result.now c.args.value c.requires stands c.index_mut.ensures.value))

pub returns-in-Ok-clause-former : goal.returns-in-Ok-clause-former
returns-in-Ok-clause-former g c =
    let stands = rw c.as_slice.ensures.value at c.in-Ok.ensures in
    ap (λ x. Some x) c.replace.ensures.value ∙ sym (find-standing keys_total exact_keys c.args.key c.args.entries.now.items c.in-Ok.i c.index_mut.result.now c.requires stands c.index_mut.ensures.value)

pub returns-in_ok-insert-in-Err-clause-ok : goal.returns-in_ok-insert-in-Err-clause-ok
returns-in_ok-insert-in-Err-clause-ok g c =
    let belongs = rw c.as_slice.ensures.value at c.in-Err.ensures in
    c.in_ok-insert-in-Err.ensures.items ∙ sym (put-absent keys_total exact_keys c.args.key c.args.entries.now.items c.in-Err.i c.args.value belongs)

pub returns-in_ok-insert-in-Err-clause-former : goal.returns-in_ok-insert-in-Err-clause-former
returns-in_ok-insert-in-Err-clause-former g c =
    let belongs = rw c.as_slice.ensures.value at c.in-Err.ensures in
    sym (find-absent keys_total exact_keys c.args.key c.args.entries.now.items c.in-Err.i belongs)

pub returns-in-Ok-clause-sorted : goal.returns-in-Ok-clause-sorted
returns-in-Ok-clause-sorted g c = rw (returns-in-Ok-clause-ok g c) (rising-put keys_total exact_keys c.args.key c.args.value c.args.entries.now.items c.requires)

pub returns-in_ok-insert-in-Err-clause-sorted : goal.returns-in_ok-insert-in-Err-clause-sorted
returns-in_ok-insert-in-Err-clause-sorted g c = rw (returns-in_ok-insert-in-Err-clause-ok g c) (rising-put keys_total exact_keys c.args.key c.args.value c.args.entries.now.items c.requires)
