use Rattle.std.proofs.Common.{List, Option, option_map, refl, sym, ◌∙◌, ap, arith}
use Rattle.jc_rules.specs.declared.id.Id.{Id}
use Rattle.jc_tree.specs.Tree.{or_no_entries, has_ids}
use Rattle.jc_tree.specs.Undo.{taken_out}
use Rattle.jc_tree.specs.Counted.{is_last}
use Rattle.jc_tree.proofs.TablesLemmas.{slot_set, slot_here}
use Rattle.jc_tree.proofs.FlagsLemmas.{flags_written, none_left, lent, lent_set, lent_none}
use Rattle.jc_tree.proofs.presences.Presences.take_out.Goals as goal

pub returns-then-not-take_out_of_set-clause-none : goal.returns-then-not-take_out_of_set-clause-none
returns-then-not-take_out_of_set-clause-none c =
    let here = slot_here c.self.inside.sets.items c.args.number c.in-Some.set.now c.in-Some.ensures.item.3.0 c.in-Some.ensures.item.1 in
    lent_none c.self.inside.sets.items c.args.self.now c.args.number c.in-Some.set.now here c.self.view_is c.args.id c.take_out_of_set.new.set c.take_out_of_set.ensures.ok

pub returns-then-not-take_out_of_set-clause-last : goal.returns-then-not-take_out_of_set-clause-last
returns-then-not-take_out_of_set-clause-last c =
    let here = slot_here c.self.inside.sets.items c.args.number c.in-Some.set.now c.in-Some.ensures.item.3.0 c.in-Some.ensures.item.1 in
    sym c.if-not-take_out_of_set.true ∙ c.take_out_of_set.ensures.last ∙ ap (λ (o : Option (List Id)). is_last c.args.id (or_no_entries o)) (lent c.self.inside.sets.items c.args.self.now c.args.number c.in-Some.set.now here c.self.view_is)

pub invariant_of-self-2 : goal.invariant_of-self-2
invariant_of-self-2 c =
    let fs = c.self.inside.flags.items in
    let sets = c.self.inside.sets.items in
    let here = slot_here c.self.inside.sets.items c.args.number c.in-Some.set.now c.in-Some.ensures.item.3.0 c.in-Some.ensures.item.1 in
    let none = none_left c.args.id c.in-Some.set.now (sym c.take_out_of_set.ensures.last ∙ c.if-not-take_out_of_set.false) in
    flags_written fs fs _ sets _ c.args.number c.take_out_of_set.new.set _ c.self.invariant (slot_set c.args.number c.take_out_of_set.new.set c.in-Some.set.now sets here) (omega arith) (omega (arith, c.in-Some.ensures.item.3.0, c.self.invariant.within)) (λ m. refl) refl
    (sym (ap (λ (o : Option (List Id)). has_ids (or_no_entries o)) c.take_out_of_set.ensures.ok ∙ none))

pub returns-clause-some : goal.returns-clause-some
returns-clause-some c = λ s h.
    let here = slot_here c.self.inside.sets.items c.args.number c.in-Some.set.now c.in-Some.ensures.item.3.0 c.in-Some.ensures.item.1 in
    let was = lent c.self.inside.sets.items c.args.self.now c.args.number c.in-Some.set.now here c.self.view_is in
    lent_set c.self.inside.sets.items c.args.self.now c.args.number c.in-Some.set.now here c.self.view_is c.take_out_of_set.new.set _ (c.take_out_of_set.ensures.ok ∙ ap (λ (o : Option (List Id)). option_map (λ (r : List Id). taken_out c.args.id r) o) (was ∙ h))

pub returns-clause-none : goal.returns-clause-none
returns-clause-none c =
    let here = slot_here c.self.inside.sets.items c.args.number c.in-Some.set.now c.in-Some.ensures.item.3.0 c.in-Some.ensures.item.1 in
    lent_none c.self.inside.sets.items c.args.self.now c.args.number c.in-Some.set.now here c.self.view_is c.args.id c.take_out_of_set.new.set c.take_out_of_set.ensures.ok

pub returns-clause-last : goal.returns-clause-last
returns-clause-last c =
    let here = slot_here c.self.inside.sets.items c.args.number c.in-Some.set.now c.in-Some.ensures.item.3.0 c.in-Some.ensures.item.1 in
    sym c.if-not-take_out_of_set.false ∙ c.take_out_of_set.ensures.last ∙ ap (λ (o : Option (List Id)). is_last c.args.id (or_no_entries o)) (lent c.self.inside.sets.items c.args.self.now c.args.number c.in-Some.set.now here c.self.view_is)
