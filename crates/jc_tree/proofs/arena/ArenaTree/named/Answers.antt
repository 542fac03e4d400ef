use Rattle.jc_tree.proofs.ArenaPlacesLemmas.{place_inside}
use Rattle.jc_tree.proofs.arena.ArenaTree.named.Goals as goal

pub node-requires : goal.node-requires
node-requires c =
    let self = c.args.self.now in
    rw c.new.ensures (place_inside self.nodes.items c.requires.0 c.args.place.number self.good c.requires.1.walk)
