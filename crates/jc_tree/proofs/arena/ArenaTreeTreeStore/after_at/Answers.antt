use Rattle.std.proofs.Common.{ap, refl, option_copied, ◌++◌}
use Rattle.jc_rules.specs.Entries.{keys_of}
use Rattle.jc_rules.specs.Context.{keys, presences, links}
use Rattle.jc_tree.specs.Tree.{least_after}
use Rattle.jc_tree.specs.Arena.{Flat}
use Rattle.jc_tree.proofs.ArenaPlacesLemmas.{place_inside}
use Rattle.jc_tree.proofs.ArenaStepsLemmas.{read_at, keys_filled}
use Rattle.jc_tree.proofs.arena.ArenaTreeTreeStore.after_at.Goals as goal

pub returns-in-Content : goal.returns-in-Content
returns-in-Content c at named =
    let self = c.args.self.now in
    rw c.in-Content.is (read_at (λ d. least_after (option_copied c.args.above) (keys d)) (λ (n : Flat). least_after (option_copied c.args.above) (keys_of n.maps ++ keys_of n.lists ++ keys_of n.registers)) self.nodes.items at c.args.place.number c.named-node.result.now _ self.good named.walk (place_inside self.nodes.items at c.args.place.number self.good named.walk) c.named-node.ensures (λ g n. ap (λ ks. least_after (option_copied c.args.above) ks) (keys_filled g n)) c.key_after.ensures)

pub returns-in-Presence : goal.returns-in-Presence
returns-in-Presence c at named =
    let self = c.args.self.now in
    rw c.in-Presence.is (read_at (λ d. least_after (option_copied c.args.above) (keys_of (presences d))) (λ (n : Flat). least_after (option_copied c.args.above) (keys_of n.presences)) self.nodes.items at c.args.place.number c.named-node.result.now _ self.good named.walk (place_inside self.nodes.items at c.args.place.number self.good named.walk) c.named-node.ensures (λ g n. refl) c.presence_after.ensures)

pub returns-in-Link : goal.returns-in-Link
returns-in-Link c at named =
    let self = c.args.self.now in
    rw c.in-Link.is (read_at (λ d. least_after (option_copied c.args.above) (keys_of (links d))) (λ (n : Flat). least_after (option_copied c.args.above) (keys_of n.links)) self.nodes.items at c.args.place.number c.named-node.result.now _ self.good named.walk (place_inside self.nodes.items at c.args.place.number self.good named.walk) c.named-node.ensures (λ g n. refl) c.link_after.ensures)
