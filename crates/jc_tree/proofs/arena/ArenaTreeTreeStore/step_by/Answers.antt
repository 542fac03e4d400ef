use Rattle.std.proofs.Common.{refl}
use Rattle.jc_rules.specs.Order.{key_cmp}
use Rattle.jc_rules.specs.Entries.{find}
use Rattle.jc_rules.specs.Context.{next, presence}
use Rattle.jc_tree.specs.Tree.{has_ids, or_no_entries}
use Rattle.jc_tree.specs.Arena.{Flat}
use Rattle.jc_tree.proofs.ArenaStepsLemmas.{read_at}
use Rattle.jc_tree.proofs.ArenaPlacesLemmas.{place_inside}
use Rattle.jc_tree.proofs.arena.ArenaTreeTreeStore.step_by.Goals as goal

pub returns-clause-next : goal.returns-clause-next
returns-clause-next c at named =
    let self = c.args.self.now in
    read_at (λ d. next c.args.key.now d) (λ (n : Flat). find key_cmp c.args.key.now n.links) self.nodes.items at c.args.place.number c.named.result.now _ self.good named.walk (place_inside self.nodes.items at c.args.place.number self.good named.walk) c.named.ensures (λ g n. refl) c.step.ensures.next

pub returns-clause-present : goal.returns-clause-present
returns-clause-present c at named =
    let self = c.args.self.now in
    read_at (λ d. has_ids (or_no_entries (presence c.args.key.now d))) (λ (n : Flat). has_ids (or_no_entries (find key_cmp c.args.key.now n.presences))) self.nodes.items at c.args.place.number c.named.result.now _ self.good named.walk (place_inside self.nodes.items at c.args.place.number self.good named.walk) c.named.ensures (λ g n. refl) c.step.ensures.present
