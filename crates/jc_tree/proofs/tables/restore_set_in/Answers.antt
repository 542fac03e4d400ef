use Rattle.std.proofs.Common.{sym, ◌∙◌}
use Rattle.jc_tree.proofs.ColumnLemmas.{not_restored_unnumbered, former_column}
use Rattle.jc_tree.specs.Numbered.GetsNumber.{had}
use Rattle.jc_tree.proofs.TablesLemmas.{found_none, restored_slot, restored_within}
use Rattle.jc_tree.proofs.tables.restore_set_in.Goals as goal

pub returns-in_err-number-clause-ok : goal.returns-in_err-number-clause-ok
returns-in_err-number-clause-ok c =
    sym (not_restored_unnumbered c.args.key.now c.args.former c.args.sets.now c.args.keys.now c.number.ensures.numbered (sym c.in_err-number.ensures.found))

pub returns-in_err-number-clause-stood : goal.returns-in_err-number-clause-stood
returns-in_err-number-clause-stood c =
    c.from_residual.ensures ∙ sym (found_none c.args.key.now c.args.sets.now c.args.keys.now c.number.ensures.numbered (sym c.in_err-number.ensures.found))

pub returns-clause-within : goal.returns-clause-within
returns-clause-within c =
    restored_within c.args.key.now c.in_ok-number.number c.restore.result c.args.former c.args.sets.now c.restore.new.self c.args.keys.now c.number.ensures.numbered (sym c.in_ok-number.ensures.found) c.requires c.restore.ensures.some c.restore.ensures.none

pub returns-clause-ok : goal.returns-clause-ok
returns-clause-ok c =
    restored_slot c.args.key.now c.in_ok-number.number c.restore.result c.args.former c.args.sets.now c.restore.new.self c.args.keys.now c.number.ensures.numbered (sym c.in_ok-number.ensures.found) c.restore.ensures.was c.restore.ensures.some c.restore.ensures.none

pub returns-clause-stood : goal.returns-clause-stood
returns-clause-stood c =
    c.restore.ensures.was ∙ former_column c.args.key.now c.in_ok-number.number c.args.sets.now c.args.keys.now c.args.keys.now c.number.ensures.numbered (had (sym c.in_ok-number.ensures.found) (λ i. c.args.keys.now)) c.requires
