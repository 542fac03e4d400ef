use Rattle.std.proofs.Common.{List}
use Rattle.jc_rules.specs.declared.key.Tagged.{Tagged}
use Rattle.jc_tree.specs.Tree.{here}
use Rattle.jc_cursor.proofs.MapNamesLemmas.{AreNamed}
use Rattle.jc_cursor.proofs.select.names_at.Given as goal

abbrev pub invariant-loop-lent : goal.invariant-loop-lent
invariant-loop-lent g l =
    (at : List Tagged) → g.S.TreeStore.names l.store l.place at
    → AreNamed l.lent-items l.lent-index (here at (g.S.TreeStore.tree l.store)) l.names.items
