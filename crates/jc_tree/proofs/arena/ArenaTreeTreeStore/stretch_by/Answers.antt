use Rattle.std.proofs.Common.{refl}
use Rattle.jc_rules.specs.Context.{links, presences}
use Rattle.jc_tree.specs.Arena.{Flat}
use Rattle.jc_tree.proofs.ArenaStepsLemmas.{read_at}
use Rattle.jc_tree.proofs.ArenaPlacesLemmas.{place_inside}
use Rattle.jc_tree.proofs.StretchesLemmas.{over_read}
use Rattle.jc_tree.proofs.arena.ArenaTreeTreeStore.stretch_by.Goals as goal

pub returns-clause-over : goal.returns-clause-over
returns-clause-over c at named =
    let self = c.args.self.now in
    let inside = place_inside self.nodes.items at c.args.place.number self.good named.walk in
    over_read c.stretch.result c.args.key.now _ _ _ _
    (read_at (λ d. links d) (λ (n : Flat). n.links) self.nodes.items at c.args.place.number c.named.result.now _ self.good named.walk inside c.named.ensures (λ g n. refl) refl)
    (read_at (λ d. presences d) (λ (n : Flat). n.presences) self.nodes.items at c.args.place.number c.named.result.now _ self.good named.walk inside c.named.ensures (λ g n. refl) refl)
    c.stretch.ensures.over
