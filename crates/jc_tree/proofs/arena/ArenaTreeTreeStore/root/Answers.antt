use Rattle.std.proofs.Common.{[], refl}
use Rattle.jc_tree.proofs.ArenaPlacesLemmas.{at_number}
use Rattle.jc_tree.proofs.arena.ArenaTreeTreeStore.root.Goals as goal

pub returns : goal.returns
returns c = at_number c.args.self.now.nodes.items [] 0 c.args.self.now.good refl
