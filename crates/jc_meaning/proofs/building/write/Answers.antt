use Rattle.std.proofs.Common.{◌≡◌, false, true, Option, Some, None, is_some, refl, ◌∙◌, ap}
use Rattle.jc_rules.specs.Order.{id_cmp, key_cmp}
use Rattle.jc_rules.specs.Entries.{find, put}
use Rattle.jc_rules.specs.Context.{Register, registers, values_of}
use Rattle.jc_rules.proofs.ContextsAtLemmas.{there}
use Rattle.jc_tree.specs.Tree.{or_no_entries, here}
use Rattle.jc_meaning.proofs.GrowthWriteLemmas.{pair_grows}
use Rattle.jc_meaning.proofs.building.write.Goals as goal

-- a register that is there
register_there : (o : Option Register) → is_some (values_of o) ≡ true → (r : Register) × (o ≡ Some r)
register_there None h = let z : false ≡ true = h in cc
register_there (Some r) h = (r, refl)

pub returns : goal.returns
returns g c =
    let found = find key_cmp c.args.key.now (registers (here c.args.at.now (g.S.TreeStore.tree c.args.store.now))) in
    let old = register_there found c.requires.register in
    pair_grows c.args.at.now c.args.key.now c.args.id c.args.value.now old.0 _ _ _ _ (there c.args.at.now _ c.requires.there) old.1 (ap (λ v. put id_cmp c.args.id v (or_no_entries found)) c.in_ok-copy.ensures ∙ ap (λ o. put id_cmp c.args.id c.args.value.now (or_no_entries o)) old.1) c.in_ok-_was.ensures.ok.now
