use Rattle.jc_tree.proofs.ArenaPlacesLemmas.{place_inside}
use Rattle.jc_tree.proofs.arena.ArenaTree.change.Goals as goal

pub change_node-requires : goal.change_node-requires
change_node-requires c =
    let at = c.requires.there.0 in
    let named = c.requires.there.1.walk in
    record {
      there = (at, rw c.new.ensures named);
      within = rw c.new.ensures (place_inside c.args.self.now.nodes.items at c.args.place.number c.args.self.now.good named);
      inside = c.requires.inside;
      fit = c.requires.fit;
    }
