use Rattle.std.proofs.Common.{refl}
use Rattle.jc_rules.specs.Context.{presences}
use Rattle.jc_tree.specs.Arena.{Flat}
use Rattle.jc_tree.specs.Tree.{count_present}
use Rattle.jc_tree.proofs.ArenaStepsLemmas.{read_at}
use Rattle.jc_tree.proofs.ArenaPlacesLemmas.{place_inside}
use Rattle.jc_tree.proofs.arena.ArenaTreeTreeStore.count_present_at.Goals as goal

pub returns : goal.returns
returns c at named =
    let self = c.args.self.now in
    read_at (λ d. count_present (presences d)) (λ (n : Flat). count_present n.presences) self.nodes.items at c.args.place.number c.named.result.now _ self.good named.walk (place_inside self.nodes.items at c.args.place.number self.good named.walk) c.named.ensures (λ g n. refl) c.count_present.ensures
