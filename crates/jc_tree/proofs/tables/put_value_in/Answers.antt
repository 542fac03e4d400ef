use Rattle.std.proofs.Common.{◌≡◌, Option, Some, None, sym, ◌∙◌, ap}
use Rattle.jc_rules.specs.Order.{id_cmp, key_cmp}
use Rattle.jc_rules.specs.Entries.{find, put}
use Rattle.jc_rules.specs.Context.{Register}
use Rattle.jc_tree.specs.Tree.{or_no_entries}
use Rattle.jc_tree.specs.Undo.{former_of_value}
use Rattle.jc_tree.specs.Numbered.{column_entries}
use Rattle.jc_tree.specs.Tables.MayNumber.{numbers}
use Rattle.jc_tree.proofs.SortedMapLemmas.{as_err}
use Rattle.jc_tree.proofs.ColumnLemmas.{same_column, put_column}
use Rattle.jc_tree.proofs.TablesLemmas.{put_within, put_slot, former_slot, slot_here, no_slot}
use Rattle.jc_tree.proofs.tables.put_value_in.Goals as goal
use Rattle.jc_tree.proofs.NodeLemmas.{on_ok, if_ok}

pub returns-in_err-single-clause-numbers : goal.returns-in_err-single-clause-numbers
returns-in_err-single-clause-numbers c = numbers c.in_ok-number.number c.number_of.ensures.numbered.0 c.in_ok-number.ensures.ok

pub returns-in_err-single-clause-err : goal.returns-in_err-single-clause-err
returns-in_err-single-clause-err c =
    as_err _ (same_column c.args.key c.in_ok-number.number c.args.registers.now.items c.args.keys.now c.number_of.new.self c.number_of.ensures.numbered.0 c.in_ok-number.ensures.ok c.requires)

pub returns-in_err-put_at-clause-numbers : goal.returns-in_err-put_at-clause-numbers
returns-in_err-put_at-clause-numbers c = numbers c.in_ok-number.number c.number_of.ensures.numbered.0 c.in_ok-number.ensures.ok

pub returns-in_err-put_at-clause-err : goal.returns-in_err-put_at-clause-err
returns-in_err-put_at-clause-err c =
    as_err _ (ap (λ d. column_entries d c.number_of.new.self) c.in_err-put_at.ensures.err ∙ same_column c.args.key c.in_ok-number.number c.args.registers.now.items c.args.keys.now c.number_of.new.self c.number_of.ensures.numbered.0 c.in_ok-number.ensures.ok c.requires)

pub returns-in_default-clause-numbers : goal.returns-in_default-clause-numbers
returns-in_default-clause-numbers c = numbers c.in_ok-number.number c.number_of.ensures.numbered.0 c.in_ok-number.ensures.ok

pub returns-in_default-clause-within : goal.returns-in_default-clause-within
returns-in_default-clause-within c =
    put_within c.args.key c.in_ok-number.number _ c.args.registers.now.items c.put_at.new.column.items c.args.keys.now c.number_of.new.self c.number_of.ensures.numbered c.in_ok-number.ensures.ok c.requires c.in_ok-put_at.ensures.ok

pub returns-in_default-clause-ok : goal.returns-in_default-clause-ok
returns-in_default-clause-ok c =
    let es = column_entries c.args.registers.now.items c.args.keys.now in
    let none : find key_cmp c.args.key es ≡ None = former_slot c.args.key c.in_ok-number.number None c.args.registers.now.items c.args.keys.now c.number_of.new.self c.number_of.ensures.numbered c.in_ok-number.ensures.ok c.requires (no_slot c.args.registers.now.items c.in_ok-number.number c.in_default.ensures.item.3) in
    put_column c.args.key c.in_ok-number.number c.in_ok-single.field-0 c.args.registers.now.items c.put_at.new.column.items c.args.keys.now c.number_of.new.self c.number_of.ensures.numbered.0 c.number_of.ensures.numbered.1 c.in_ok-number.ensures.ok c.requires c.in_ok-put_at.ensures.ok
    ∙ ap (λ (x : Register). put key_cmp c.args.key x es) (c.in_ok-single.ensures ∙ ap (λ (o : Option Register). put id_cmp c.args.id c.args.value (or_no_entries o)) (sym none))

pub returns-in_default-clause-former : goal.returns-in_default-clause-former
returns-in_default-clause-former c =
    ap (λ (o : Option Register). former_of_value c.args.key c.args.id o) (sym (former_slot c.args.key c.in_ok-number.number None c.args.registers.now.items c.args.keys.now c.number_of.new.self c.number_of.ensures.numbered c.in_ok-number.ensures.ok c.requires (no_slot c.args.registers.now.items c.in_ok-number.number c.in_default.ensures.item.3)))

pub returns-clause-ok : goal.returns-clause-ok
returns-clause-ok c =
    let col = c.args.registers.now.items in
    let es = column_entries col c.args.keys.now in
    let here = slot_here col c.in_ok-number.number c.in-Some.register.now c.in-Some.ensures.item.3.0 c.in-Some.ensures.item.1 in
    let was : find key_cmp c.args.key es ≡ c.in-Some.register.now = former_slot c.args.key c.in_ok-number.number (Some c.in-Some.register.now) col c.args.keys.now c.number_of.new.self c.number_of.ensures.numbered c.in_ok-number.ensures.ok c.requires here in
    on_ok c.put_to_register.result (λ e. put_slot c.args.key c.in_ok-number.number _ c.in-Some.register.now c.put_to_register.new.register col c.args.keys.now c.number_of.new.self c.number_of.ensures.numbered c.in_ok-number.ensures.ok c.requires here e ∙ ap (λ (o : Option Register). put key_cmp c.args.key (put id_cmp c.args.id c.args.value (or_no_entries o)) es) (sym was)) c.put_to_register.ensures.ok

pub returns-clause-former : goal.returns-clause-former
returns-clause-former c =
    let col = c.args.registers.now.items in
    let here = slot_here col c.in_ok-number.number c.in-Some.register.now c.in-Some.ensures.item.3.0 c.in-Some.ensures.item.1 in
    let was = former_slot c.args.key c.in_ok-number.number (Some c.in-Some.register.now) col c.args.keys.now c.number_of.new.self c.number_of.ensures.numbered c.in_ok-number.ensures.ok c.requires here in
    if_ok c.put_to_register.result (λ a e. e ∙ ap (λ (o : Option Register). former_of_value c.args.key c.args.id o) (sym was)) c.put_to_register.ensures.former
