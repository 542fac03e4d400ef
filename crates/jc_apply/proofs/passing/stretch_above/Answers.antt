use Rattle.jc_rules.specs.declared.key.Key.TheVariants.{Elem}
use Rattle.jc_tree.specs.Tree.{here}
use Rattle.jc_apply.proofs.InsertLemmas.{greater_over}
use Rattle.jc_apply.proofs.passing.stretch_above.Goals as goal

pub returns-then-is_below-clause-leads : goal.returns-then-is_below-clause-leads
returns-then-is_below-clause-leads g c at named =
    let s = c.in_ok-stretch.stretch in
    greater_over s.count (here at (g.S.TreeStore.tree c.args.store.now)) c.args.id c.args.search.now.key (Elem s.last) s.bits s.least (c.is_below.ensures.0 c.if-is_below.true) (c.in_ok-stretch.ensures.over at named)
