use Rattle.jc_tree.proofs.NodeLemmas.{new_list}
use Rattle.jc_tree.proofs.node.Node.make_list.Goals as goal

pub returns-clause-ok : goal.returns-clause-ok
returns-clause-ok c = new_list _ _ _ _ _ _ c.self.view_is _ _ _ c.in_ok-new_list.ensures c.in_ok-put_value.ensures.ok
