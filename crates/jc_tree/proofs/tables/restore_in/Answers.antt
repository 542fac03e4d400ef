use Rattle.std.proofs.Common.{sym, ◌∙◌}
use Rattle.jc_tree.proofs.ColumnLemmas.{not_restored_unnumbered, former_column}
use Rattle.jc_tree.specs.Numbered.GetsNumber.{had}
use Rattle.jc_tree.proofs.TablesLemmas.{found_none, restored_slot, restored_within}
use Rattle.jc_tree.proofs.tables.restore_in.Goals as goal

pub returns-in_err-number-clause-ok : goal.returns-in_err-number-clause-ok
returns-in_err-number-clause-ok g c =
    sym (not_restored_unnumbered c.args.key.now c.args.former c.args.column.now.items c.args.keys.now c.number.ensures.numbered (sym c.in_err-number.ensures.found))

pub returns-in_err-number-clause-stood : goal.returns-in_err-number-clause-stood
returns-in_err-number-clause-stood g c =
    c.from_residual.ensures ∙ sym (found_none c.args.key.now c.args.column.now.items c.args.keys.now c.number.ensures.numbered (sym c.in_err-number.ensures.found))

pub returns-clause-within : goal.returns-clause-within
returns-clause-within g c =
    restored_within c.args.key.now c.in_ok-number.number c.restore_at.result c.args.former c.args.column.now.items c.restore_at.new.column.items c.args.keys.now c.number.ensures.numbered (sym c.in_ok-number.ensures.found) c.requires c.restore_at.ensures.some c.restore_at.ensures.none

pub returns-clause-ok : goal.returns-clause-ok
returns-clause-ok g c =
    restored_slot c.args.key.now c.in_ok-number.number c.restore_at.result c.args.former c.args.column.now.items c.restore_at.new.column.items c.args.keys.now c.number.ensures.numbered (sym c.in_ok-number.ensures.found) c.restore_at.ensures.was c.restore_at.ensures.some c.restore_at.ensures.none

pub returns-clause-stood : goal.returns-clause-stood
returns-clause-stood g c =
    c.restore_at.ensures.was ∙ former_column c.args.key.now c.in_ok-number.number c.args.column.now.items c.args.keys.now c.args.keys.now c.number.ensures.numbered (had (sym c.in_ok-number.ensures.found) (λ i. c.args.keys.now)) c.requires
