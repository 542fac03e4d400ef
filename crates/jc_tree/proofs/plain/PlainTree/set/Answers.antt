use Rattle.jc_tree.proofs.NamedLemmas.{inside_named}
use Rattle.jc_tree.proofs.plain.PlainTree.set.Goals as goal

pub change-requires : goal.change-requires
change-requires c =
    let old = c.args.self.now in
    let at = c.requires.there.0 in
    let place = c.requires.there.1 in
    record {
      named = (at, place, c.requires.there.2, inside_named old.paths.items at c.args.change old.root c.requires.inside place.there old.root_named);
      fit = c.requires.fit;
    }
