use Rattle.std.proofs.Common.{List, Some, length}
use Rattle.jc_rules.specs.declared.key.Tagged.{Tagged}
use Rattle.jc_rules.specs.Context.{links}
use Rattle.jc_tree.specs.Tree.{here}
use Rattle.jc_tree.proofs.ChainedLeadsLemmas.{steps}
use Rattle.jc_apply.proofs.InsertLemmas.{Passing}
use Rattle.jc_apply.proofs.passing.pass.Given as goal

abbrev pub invariant-loop-search : goal.invariant-loop-search
invariant-loop-search g l =
    (at : List Tagged)
    → g.S.TreeStore.names l.fn.store l.fn.place at
    → Passing l.fn.op (here at (g.S.TreeStore.tree l.fn.store)) l.search.key l.search.next l.fn.trace l.trace

abbrev pub decreases-loop-search : goal.decreases-loop-search
decreases-loop-search g l =
    let list = here (g.S.TreeStore.path l.fn.store l.fn.place) (g.S.TreeStore.tree l.fn.store) in
    steps (Some l.search.key) (length (links list)) list
