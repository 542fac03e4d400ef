use Rattle.std.proofs.Common.{Some, is_some, ◌∷◌, ◌++◌, [], sym, ◌∙◌, ap}
use Rattle.jc_rules.specs.declared.key.Tagged.TheVariants.{ListT}
use Rattle.jc_tree.proofs.ArenaPlacesLemmas.{below_named, at_number, child_some}
use Rattle.jc_tree.proofs.arena.ArenaTreeTreeStore.list_by.Goals as goal

pub returns-in_err-child-clause-some : goal.returns-in_err-child-clause-some
returns-in_err-child-clause-some c at named =
    let self = c.args.self.now in
    ap (λ o. is_some o) c.from_residual.ensures ∙ child_some self.nodes.items at c.args.place.number (ListT c.args.key.now) c.named.result.now _ self.good named.walk c.named.ensures tt (sym c.in_err-child.was ∙ c.list_near.ensures)

pub returns-clause-some : goal.returns-clause-some
returns-clause-some c at named =
    let self = c.args.self.now in
    child_some self.nodes.items at c.args.place.number (ListT c.args.key.now) c.named.result.now _ self.good named.walk c.named.ensures tt (sym c.in_ok-child.was ∙ c.list_near.ensures)

pub returns-clause-named : goal.returns-clause-named
returns-clause-named c at named =
    let self = c.args.self.now in
    at_number self.nodes.items (at ++ ListT c.args.key.now ∷ []) _ self.good (below_named self.nodes.items at c.args.place.number (ListT c.args.key.now) c.named.result.now _ self.good named.walk c.named.ensures (sym c.in_ok-child.was ∙ c.list_near.ensures) ∙ ap (λ n. Some n) (sym c.number.ensures))
