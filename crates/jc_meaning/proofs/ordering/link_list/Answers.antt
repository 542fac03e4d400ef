use Rattle.std.proofs.Common.{rules, ◌≡◌, Some}
use Rattle.jc_rules.specs.declared.key.Key.TheVariants.{Head}
use Rattle.jc_rules.specs.declared.key.Next.TheVariants.{Tail}
use Rattle.jc_rules.specs.Context.{next}
use Rattle.jc_rules.proofs.ContextsAtLemmas.{there}
use Rattle.jc_tree.specs.Tree.{here}
use Rattle.jc_meaning.proofs.ChainEndsLemmas.{not_new, newly_linked, slice_differs}
use Rattle.jc_meaning.proofs.ordering.link_list.Goals as goal

pub returns-then-ne : goal.returns-then-ne
returns-then-ne g c =
    let other : next Head (here c.args.at.now (g.S.TreeStore.tree c.args.store.now)) ≡ Some Tail → ⊥ = search rules in
    not_new c.args.ops.now c.args.at.now _ _ (there c.args.at.now _ c.requires.there) other

pub link-requires-clause-apart : goal.link-requires-clause-apart
link-requires-clause-apart g c = slice_differs c.args.ops.now c.args.at.now c.in_ok-ids.ids.items c.as_slice.result.now c.as_slice.ensures.value c.in_ok-ids.ensures

pub returns : goal.returns
returns g c =
    let tail : next Head (here c.args.at.now (g.S.TreeStore.tree c.args.store.now)) ≡ Some Tail = search rules in
    newly_linked c.args.ops.now c.args.at.now c.in_ok-ids.ids.items c.as_slice.result.now _ _ _ (there c.args.at.now _ c.requires.there) tail c.as_slice.ensures.value c.in_ok-ids.ensures c.in_ok-link.ensures
