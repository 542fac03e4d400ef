use Rattle.jc_tree.proofs.NodeLemmas.{if_ok}
use Rattle.jc_tree.proofs.LentLemmas.{table_rises, all_of_node}
use Rattle.jc_tree.proofs.arena_node.ArenaNode.keys_in_order.Goals as goal

pub returns-clause-rising : goal.returns-clause-rising
returns-clause-rising c = if_ok c.in_order.result (λ lent e. table_rises c.self.inside.keys _ c.in_order.ensures.numbered e) c.in_order.ensures.keys

pub returns-clause-all : goal.returns-clause-all
returns-clause-all c =
    let i = c.self.inside in
    if_ok c.in_order.result (λ lent e. all_of_node i.keys i.maps.items i.lists.items i.registers.items i.presences i.links.items c.args.self.now _ c.self.view_is e) c.in_order.ensures.keys
