use Rattle.jc_tree.specs.Numbered.{column_entries}
use Rattle.jc_tree.proofs.arena_node.split.Goals as goal

pub returns-clause-fit : goal.returns-clause-fit
returns-clause-fit c = λ fit.
    let keys = c.args.keys.now in
    c.grow.ensures (c.split.ensures.fit keys.keys (column_entries c.args.links.now keys) (column_entries c.args.presences.now keys) fit)
