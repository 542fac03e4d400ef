use Rattle.std.proofs.Common.{refl}
use Rattle.jc_rules.specs.Order.{key_cmp}
use Rattle.jc_rules.specs.Entries.{find}
use Rattle.jc_rules.specs.Context.{presence}
use Rattle.jc_tree.specs.Arena.{Flat}
use Rattle.jc_tree.proofs.ArenaStepsLemmas.{read_at}
use Rattle.jc_tree.proofs.ArenaPlacesLemmas.{place_inside}
use Rattle.jc_tree.proofs.arena.ArenaTreeTreeStore.presence_by.Goals as goal

pub returns : goal.returns
returns c at named =
    let self = c.args.self.now in
    read_at (λ d. presence c.args.key.now d) (λ (n : Flat). find key_cmp c.args.key.now n.presences) self.nodes.items at c.args.place.number c.named.result.now _ self.good named.walk (place_inside self.nodes.items at c.args.place.number self.good named.walk) c.named.ensures (λ g n. refl) c.presence_near.ensures
