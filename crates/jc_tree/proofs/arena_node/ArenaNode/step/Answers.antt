use Rattle.std.proofs.Common.{List, Option, sym, ◌∙◌, ap}
use Rattle.jc_rules.specs.declared.id.Id.{Id}
use Rattle.jc_rules.specs.declared.key.Next.{Next}
use Rattle.jc_rules.specs.Order.{key_cmp}
use Rattle.jc_rules.specs.Entries.{find}
use Rattle.jc_tree.specs.Arena.{Flat}
use Rattle.jc_tree.specs.Tree.{or_no_entries, has_ids}
use Rattle.jc_tree.specs.Numbered.{at_number}
use Rattle.jc_tree.proofs.TablesLemmas.{found_none}
use Rattle.jc_tree.proofs.ColumnLemmas.{find_column}
use Rattle.jc_tree.proofs.arena_node.ArenaNode.step.Goals as goal
use Rattle.jc_tree.specs.Arena.{go_on}

pub returns-in_default-clause-next : goal.returns-in_default-clause-next
returns-in_default-clause-next c =
    sym (ap (λ (f : Flat). find key_cmp c.args.key.now f.links) (sym c.self.view_is) ∙ found_none c.args.key.now c.self.inside.links.items c.self.inside.keys c.number_near.ensures.numbered (sym c.number_near.ensures.found ∙ c.in_default.is))

pub returns-in_default-clause-present : goal.returns-in_default-clause-present
returns-in_default-clause-present c =
    ap (λ (o : Option (List Id)). has_ids (or_no_entries o)) (sym (ap (λ (f : Flat). find key_cmp c.args.key.now f.presences) (sym c.self.view_is) ∙ found_none c.args.key.now c.self.inside.presences c.self.inside.keys c.number_near.ensures.numbered (sym c.number_near.ensures.found ∙ c.in_default.is)))

pub returns-clause-next : goal.returns-clause-next
returns-clause-next c =
    c.next_of-next.ensures ∙ c.value_at-link.ensures ∙ ap (λ (d : List (Option Next)). at_number d c.in-Some.number) c.as_slice.ensures.value
    ∙ sym (ap (λ (f : Flat). find key_cmp c.args.key.now f.links) (sym c.self.view_is) ∙ find_column c.args.key.now c.self.inside.links.items c.self.inside.keys c.number_near.ensures.numbered ∙ ap (λ o. go_on o (λ n. at_number c.self.inside.links.items n)) (sym c.number_near.ensures.found ∙ c.in-Some.is))

pub returns-clause-present : goal.returns-clause-present
returns-clause-present c =
    c.is_inhabited-present.ensures ∙ ap (λ (o : Option (List Id)). has_ids (or_no_entries o))
    (sym (ap (λ (f : Flat). find key_cmp c.args.key.now f.presences) (sym c.self.view_is) ∙ find_column c.args.key.now c.self.inside.presences c.self.inside.keys c.number_near.ensures.numbered ∙ ap (λ o. go_on o (λ n. at_number c.self.inside.presences n)) (sym c.number_near.ensures.found ∙ c.in-Some.is)))
