use Rattle.std.proofs.Common.{List, Option, Some, refl, sym, ◌∙◌, ap}
use Rattle.jc_rules.specs.declared.id.Id.{Id}
use Rattle.jc_rules.specs.Ids.{with_id}
use Rattle.jc_tree.specs.Tree.{or_no_entries, has_ids}
use Rattle.jc_tree.specs.Undo.{former_of_id}
use Rattle.jc_tree.proofs.CountedLemmas.{has_added}
use Rattle.jc_tree.proofs.TablesLemmas.{slot_set, slot_here}
use Rattle.jc_tree.proofs.FlagsLemmas.{flags_written, lent, lent_set}
use Rattle.jc_tree.proofs.presences.Presences.add.Goals as goal

pub invariant_of-self-2 : goal.invariant_of-self-2
invariant_of-self-2 c =
    let sets = c.self.inside.sets.items in
    let here = slot_here c.self.inside.sets.items c.args.number c.in-Some.set.now c.in-Some.ensures.item.3.0 c.in-Some.ensures.item.1 in
    flags_written c.self.inside.flags.items c.reach.new.flags.items _ sets _ c.args.number c.add_to_set.new.set _ c.self.invariant (slot_set c.args.number c.add_to_set.new.set c.in-Some.set.now sets here) c.reach.ensures.more c.in_ok-reach.ensures.there c.reach.ensures.same refl
    (sym (ap (λ (o : Option (List Id)). has_ids (or_no_entries o)) c.in_ok-added.ensures.ok ∙ has_added c.args.id (or_no_entries c.in-Some.set.now)))

pub returns-clause-ok : goal.returns-clause-ok
returns-clause-ok c =
    let here = slot_here c.self.inside.sets.items c.args.number c.in-Some.set.now c.in-Some.ensures.item.3.0 c.in-Some.ensures.item.1 in
    let was = lent c.self.inside.sets.items c.args.self.now c.args.number c.in-Some.set.now here c.self.view_is in
    lent_set c.self.inside.sets.items c.args.self.now c.args.number c.in-Some.set.now here c.self.view_is c.add_to_set.new.set _ (c.in_ok-added.ensures.ok ∙ ap (λ (o : Option (List Id)). Some (with_id c.args.id (or_no_entries o))) was)

pub returns-clause-former : goal.returns-clause-former
returns-clause-former c =
    let here = slot_here c.self.inside.sets.items c.args.number c.in-Some.set.now c.in-Some.ensures.item.3.0 c.in-Some.ensures.item.1 in
    c.in_ok-added.ensures.former ∙ ap (λ (o : Option (List Id)). former_of_id c.args.key c.args.id o) (lent c.self.inside.sets.items c.args.self.now c.args.number c.in-Some.set.now here c.self.view_is)

pub returns-clause-was : goal.returns-clause-was
returns-clause-was c =
    let here = slot_here c.self.inside.sets.items c.args.number c.in-Some.set.now c.in-Some.ensures.item.3.0 c.in-Some.ensures.item.1 in
    c.in_ok-added.ensures.was ∙ ap (λ (o : Option (List Id)). has_ids (or_no_entries o)) (lent c.self.inside.sets.items c.args.self.now c.args.number c.in-Some.set.now here c.self.view_is)
