use Rattle.std.proofs.Common.{option_copied, sym, ◌∙◌, ap}
use Rattle.jc_tree.specs.Numbered.{at_number}
use Rattle.jc_tree.specs.Arena.{go_on}
use Rattle.jc_tree.proofs.TablesLemmas.{found_none}
use Rattle.jc_tree.proofs.ColumnLemmas.{find_column}
use Rattle.jc_tree.proofs.tables.value_near.Goals as goal

pub returns-in_err-near : goal.returns-in_err-near
returns-in_err-near g c =
    ap (λ o. option_copied o) c.from_residual.ensures ∙ sym (found_none c.args.key.now c.args.column.now c.args.keys.now c.number_near.ensures.numbered (sym c.in_err-near.ensures.found))

pub returns : goal.returns
returns g c =
    c.value_at.ensures ∙ sym (find_column c.args.key.now c.args.column.now c.args.keys.now c.number_near.ensures.numbered ∙ ap (λ o. go_on o (λ n. at_number c.args.column.now n)) (sym c.in_ok-near.ensures.found))
