use Rattle.std.proofs.Common.{Some, is_some, ◌∷◌, ◌++◌, [], sym, ◌∙◌, ap}
use Rattle.jc_tree.proofs.ArenaPlacesLemmas.{below_some, below_named, at_number}
use Rattle.jc_tree.proofs.arena.ArenaTreeTreeStore.below.Goals as goal

pub returns-in_err-child-clause-some : goal.returns-in_err-child-clause-some
returns-in_err-child-clause-some c at named =
    let self = c.args.self.now in
    ap (λ o. is_some o) c.from_residual.ensures ∙ below_some self.nodes.items at c.args.place.number c.args.key.now c.named.result.now _ self.good named.walk c.named.ensures (sym c.in_err-child.was ∙ c.child.ensures)

pub returns-clause-some : goal.returns-clause-some
returns-clause-some c at named =
    let self = c.args.self.now in
    below_some self.nodes.items at c.args.place.number c.args.key.now c.named.result.now _ self.good named.walk c.named.ensures (sym c.in_ok-child.was ∙ c.child.ensures)

pub returns-clause-named : goal.returns-clause-named
returns-clause-named c at named =
    let self = c.args.self.now in
    at_number self.nodes.items (at ++ c.args.key.now ∷ []) _ self.good (below_named self.nodes.items at c.args.place.number c.args.key.now c.named.result.now _ self.good named.walk c.named.ensures (sym c.in_ok-child.was ∙ c.child.ensures) ∙ ap (λ n. Some n) (sym c.number.ensures))
