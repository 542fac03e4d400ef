use Rattle.std.proofs.Common.{Some, cond, option_copied, sym, ◌∙◌, ap}
use Rattle.jc_rules.specs.declared.key.Key.TheVariants.{Elem}
use Rattle.jc_tree.specs.Numbered.{column_entries}
use Rattle.jc_tree.proofs.NumberedLemmas.{key_at}
use Rattle.jc_tree.proofs.FitNodesLemmas.{last_linked, number_bit}
use Rattle.jc_tree.proofs.arena_node.grow_once.Goals as goal

pub returns : goal.returns
returns c =
    let keys = c.args.keys.now in
    let found = sym c.number_near.ensures.found ∙ c.in-Some-number_near.is in
    c.add.ensures.fit keys.keys (column_entries c.args.links.now keys) (column_entries c.args.presences.now keys)
    (key_at keys c.number_near.ensures.numbered (Elem c.in-Elem.id) c.in-Some-number_near.number found)
    (number_bit keys c.args.presences.now (Elem c.in-Elem.id) c.in-Some-number_near.number c.number_near.ensures.numbered found ∙ ap (λ b. cond b 1 0) (sym c.is_inhabited.ensures))
    (last_linked keys c.args.links.now c.args.blocks.now c.args.block c.in-Some.last c.in-Elem.id c.number_near.ensures.numbered c.requires
    (λ s n h none. sym c.in-Some.is ∙ c.last.ensures s n h none)
    (sym c.value_at.ensures ∙ ap option_copied c.in-Some-value_at.is ∙ ap Some (sym c.next.ensures ∙ c.in-Elem.is)))
