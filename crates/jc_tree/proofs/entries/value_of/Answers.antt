use Rattle.std.proofs.Common.{sym}
use Rattle.jc_rules.proofs.OrderLemmas.{keys_total, exact_keys}
use Rattle.jc_tree.proofs.SortedLemmas.{find-standing, find-absent}
use Rattle.jc_tree.proofs.entries.value_of.Goals as goal

pub returns-in-Ok : goal.returns-in-Ok
returns-in-Ok g c = rw (← c.index-entries-i.is) (sym (find-standing keys_total exact_keys c.args.key.now c.args.entries.now c.in-Ok.i c.index-entries-i.result c.requires c.in-Ok.ensures c.index-entries-i.is))

pub returns-in-Err : goal.returns-in-Err
returns-in-Err g c = sym (find-absent keys_total exact_keys c.args.key.now c.args.entries.now _ c.in-Err.ensures)
