use Rattle.std.proofs.Common.{IfOk, Contains, refl, subst}
use Rattle.std.specs.List.{AllByRecursion}
use Rattle.jc_tree.specs.Tree.{all_keys, keys_lent}
use Rattle.jc_tree.specs.Arena.{flat_keys}
use Rattle.jc_tree.proofs.ArenaStepsLemmas.{read_at, all_filled}
use Rattle.jc_tree.proofs.ArenaPlacesLemmas.{place_inside}
use Rattle.jc_tree.proofs.arena.ArenaTreeTreeStore.keys_at.Goals as goal

pub returns-clause-all : goal.returns-clause-all
returns-clause-all c at named =
    let self = c.args.self.now in
    let node = c.named.result.now in
    subst (λ ks. IfOk c.keys_in_order.result (λ lent. AllByRecursion (Contains (keys_lent lent.items)) ks))
    (read_at all_keys flat_keys self.nodes.items at c.args.place.number node (flat_keys node) self.good named.walk (place_inside self.nodes.items at c.args.place.number self.good named.walk) c.named.ensures all_filled refl)
    c.keys_in_order.ensures.all
