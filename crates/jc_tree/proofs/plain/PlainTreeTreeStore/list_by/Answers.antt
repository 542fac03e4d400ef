use Rattle.std.proofs.Common.{◌≡◌, [], ◌∷◌, ◌++◌, is_some, sym, ◌∙◌, ap}
use Rattle.std.proofs.lemmas.Option.{same_Some}
use Rattle.jc_rules.specs.declared.key.Tagged.TheVariants.{ListT}
use Rattle.jc_rules.specs.Context.{content}
use Rattle.jc_tree.proofs.NamedLemmas.{below_there}
use Rattle.jc_tree.proofs.plain.PlainTreeTreeStore.list_by.Goals as goal

pub place_below-requires : goal.place_below-requires
place_below-requires c =
    let self = c.args.self.now in
    let at = c.requires.0 in
    let place = c.requires.1 in
    let key = ListT c.args.key.now in
    let path : c.path.result.now ≡ at = same_Some _ _ (sym c.path.ensures ∙ place.named) in
    let some = ap (λ d. is_some (content key d)) (sym (c.node.ensures at place)) ∙ sym c.has_list.ensures ∙ c.if-has_list.true in
    rw path (self.root_named (at ++ key ∷ []) (below_there at key self.root tt place.there some))

pub returns-then-has_list-clause-named : goal.returns-then-has_list-clause-named
returns-then-has_list-clause-named c at place =
    let self = c.args.self.now in
    let key = ListT c.args.key.now in
    let path : c.path.result.now ≡ at = same_Some _ _ (sym c.path.ensures ∙ place.named) in
    let some = ap (λ d. is_some (content key d)) (sym (c.node.ensures at place)) ∙ sym c.has_list.ensures ∙ c.if-has_list.true in
    record { named = rw path at c.place_below.ensures; there = below_there at key self.root tt place.there some }
