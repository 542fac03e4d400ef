use Rattle.std.proofs.Common.{◌∙◌, refl, is_some}
use Rattle.jc_rules.specs.Order.{key_cmp}
use Rattle.jc_rules.specs.Entries.{find}
use Rattle.jc_rules.specs.Context.{presence}
use Rattle.jc_tree.specs.Arena.{Flat, flat_at}
use Rattle.jc_tree.proofs.ArenaStepsLemmas.{read_at, id_there}
use Rattle.jc_tree.proofs.NodeLemmas.{if_ok}
use Rattle.jc_tree.proofs.ArenaPlacesLemmas.{place_inside}
use Rattle.jc_tree.proofs.arena.ArenaTreeTreeStore.add_presence_at.Goals as goal

pub returns-clause-was : goal.returns-clause-was
returns-clause-was c at named =
    let self = c.args.self.now in
    let ns = self.nodes.items in
    let i = c.args.place.number in
    let sets = (flat_at ns i).presences in
    if_ok c.change_node.result (λ was h. read_at (λ d. is_some (presence c.args.key.now d)) (λ (n : Flat). is_some (find key_cmp c.args.key.now n.presences)) ns at i (flat_at ns i) was self.good named.walk (place_inside ns at i self.good named.walk) refl (λ g n. refl) (h ∙ id_there c.args.key.now c.args.id (find key_cmp c.args.key.now sets))) (rw (c.new-node.ensures, c.in_ok-copy.ensures) at c.change_node.ensures.was)

pub change_node-requires : goal.change_node-requires
change_node-requires c = record {
  there = (c.requires.0, rw c.new-node.ensures c.requires.1.walk);
  within = rw c.new-node.ensures (place_inside c.args.self.now.nodes.items c.requires.0 c.args.place.number c.args.self.now.good c.requires.1.walk);
  inside = tt;
  fit = tt;
}
