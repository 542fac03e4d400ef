use Rattle.std.proofs.Common.{◌∙◌, refl}
use Rattle.jc_tree.proofs.ArenaCallsLemmas.{popped}
use Rattle.jc_tree.proofs.arena.drop_node.Goals as goal

pub returns-in-Map : goal.returns-in-Map
returns-in-Map c = popped _ _ _ c.args.nodes.now.ok.0 c.pop.ensures.rest ∙ rw c.in-Map.is refl

pub returns-in-List : goal.returns-in-List
returns-in-List c = popped _ _ _ c.args.nodes.now.ok.0 c.pop-in-List.ensures.rest ∙ rw c.in-List.is refl
