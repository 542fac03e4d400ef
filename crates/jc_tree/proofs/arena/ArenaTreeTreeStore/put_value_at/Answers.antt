use Rattle.std.proofs.Common.{◌∙◌, refl, is_some}
use Rattle.jc_rules.specs.Order.{key_cmp}
use Rattle.jc_rules.specs.Entries.{find}
use Rattle.jc_rules.specs.Context.{registers}
use Rattle.jc_tree.specs.Arena.{Flat, flat_at}
use Rattle.jc_tree.proofs.ArenaStepsLemmas.{read_at, value_there}
use Rattle.jc_tree.proofs.NodeLemmas.{if_ok}
use Rattle.jc_tree.proofs.ArenaPlacesLemmas.{place_inside}
use Rattle.jc_tree.proofs.arena.ArenaTreeTreeStore.put_value_at.Goals as goal

pub returns-clause-was : goal.returns-clause-was
returns-clause-was c at named =
    let self = c.args.self.now in
    let ns = self.nodes.items in
    let i = c.args.place.number in
    let values = (flat_at ns i).registers in
    if_ok c.change_node.result (λ was h. read_at (λ d. is_some (find key_cmp c.args.key.now (registers d))) (λ (n : Flat). is_some (find key_cmp c.args.key.now n.registers)) ns at i (flat_at ns i) was self.good named.walk (place_inside ns at i self.good named.walk) refl (λ g n. refl) (h ∙ value_there c.args.key.now c.args.id (find key_cmp c.args.key.now values))) (rw (c.new-node.ensures, c.in_ok-copy.ensures) at c.change_node.ensures.was)

pub change_node-requires : goal.change_node-requires
change_node-requires c = record {
  there = (c.requires.named.0, rw c.new-node.ensures c.requires.named.1.walk);
  within = rw c.new-node.ensures (place_inside c.args.self.now.nodes.items c.requires.named.0 c.args.place.number c.args.self.now.good c.requires.named.1.walk);
  inside = tt;
  fit = c.requires.primitive;
}
