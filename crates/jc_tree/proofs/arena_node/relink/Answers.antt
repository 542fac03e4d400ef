use Rattle.jc_tree.specs.Numbered.{column_entries}
use Rattle.jc_tree.proofs.FitNodesLemmas.{if_some}
use Rattle.jc_tree.proofs.arena_node.relink.Goals as goal

pub returns-in_default-block_of-clause-some : goal.returns-in_default-block_of-clause-some
returns-in_default-block_of-clause-some c =
    let keys = c.args.keys.now in
    let links = column_entries c.args.links.now keys in
    let presences = column_entries c.args.presences.now keys in
    if_some _ _ c.in-Some.number c.in-Some.is (λ key old distinct numbered differ fit.
    c.block_of.ensures.fit keys.keys links presences (c.cut_after.ensures.fit keys.keys old links presences key distinct numbered differ fit))

pub returns-clause-some : goal.returns-clause-some
returns-clause-some c =
    let keys = c.args.keys.now in
    let links = column_entries c.args.links.now keys in
    let presences = column_entries c.args.presences.now keys in
    if_some _ _ c.in-Some.number c.in-Some.is (λ key old distinct numbered differ fit.
    c.grow.ensures (c.block_of.ensures.fit keys.keys links presences (c.cut_after.ensures.fit keys.keys old links presences key distinct numbered differ fit)))
