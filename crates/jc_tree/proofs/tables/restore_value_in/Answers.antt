use Rattle.std.proofs.Common.{None, refl, sym, ◌∙◌, ap}
use Rattle.jc_rules.specs.Order.{id_cmp}
use Rattle.jc_rules.specs.Context.{Register}
use Rattle.jc_tree.specs.Undo.{restored, restored_value}
use Rattle.jc_tree.specs.Numbered.{column_entries}
use Rattle.jc_tree.proofs.TablesLemmas.{found_none, found_slot, in_place, slot_here, no_slot}
use Rattle.jc_tree.proofs.tables.restore_value_in.Goals as goal

pub returns-in_default-clause-ok : goal.returns-in_default-clause-ok
returns-in_default-clause-ok c =
    let es = column_entries c.args.registers.now.items c.args.keys.now in
    ap (λ o. restored_value c.args.key.now c.args.id c.args.former o es) (sym (found_none c.args.key.now c.args.registers.now.items c.args.keys.now c.number.ensures.numbered (sym c.number.ensures.found ∙ c.in_default.is)))

pub returns-in-Some-get_mut-clause-ok : goal.returns-in-Some-get_mut-clause-ok
returns-in-Some-get_mut-clause-ok c =
    let col = c.args.registers.now.items in
    let es = column_entries col c.args.keys.now in
    let item = c.in-Some-get_mut.ensures.item in
    in_place c.args.key.now c.in-Some.number (λ (r : Register). restored id_cmp c.args.id c.args.former r) (λ o. restored_value c.args.key.now c.args.id c.args.former o es) c.in-Some-get_mut.register.now c.restore_register.new.register col c.args.keys.now c.number.ensures.numbered (sym c.number.ensures.found ∙ c.in-Some.is) (slot_here col c.in-Some.number c.in-Some-get_mut.register.now item.3.0 item.1) c.restore_register.ensures c.requires refl (λ x. refl)

pub returns-in_default-get_mut-clause-ok : goal.returns-in_default-get_mut-clause-ok
returns-in_default-get_mut-clause-ok c =
    let col = c.args.registers.now.items in
    let es = column_entries col c.args.keys.now in
    ap (λ o. restored_value c.args.key.now c.args.id c.args.former o es) (sym (found_slot c.args.key.now c.in-Some.number None col c.args.keys.now c.number.ensures.numbered (sym c.number.ensures.found ∙ c.in-Some.is) (no_slot col c.in-Some.number c.in_default-get_mut.ensures.item.3)))
