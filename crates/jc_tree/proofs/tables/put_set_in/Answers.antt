use Rattle.std.proofs.Common.{◌∙◌, ap}
use Rattle.jc_tree.specs.Numbered.{column_entries}
use Rattle.jc_tree.specs.Tables.MayNumber.{numbers}
use Rattle.jc_tree.proofs.SortedMapLemmas.{as_err}
use Rattle.jc_tree.proofs.ColumnLemmas.{same_column, former_column, put_column}
use Rattle.jc_tree.proofs.TablesLemmas.{put_within}
use Rattle.jc_tree.proofs.tables.put_set_in.Goals as goal

pub returns-in_err-former-clause-numbers : goal.returns-in_err-former-clause-numbers
returns-in_err-former-clause-numbers c = numbers c.in_ok-number.number c.number_of.ensures.numbered.0 c.in_ok-number.ensures.ok

pub returns-in_err-former-clause-err : goal.returns-in_err-former-clause-err
returns-in_err-former-clause-err c =
    as_err _ (ap (λ d. column_entries d c.number_of.new.self) c.in_err-former.ensures.err ∙ same_column c.args.key.now c.in_ok-number.number c.args.sets.now c.args.keys.now c.number_of.new.self c.number_of.ensures.numbered.0 c.in_ok-number.ensures.ok c.requires)

pub returns-clause-numbers : goal.returns-clause-numbers
returns-clause-numbers c = numbers c.in_ok-number.number c.number_of.ensures.numbered.0 c.in_ok-number.ensures.ok

pub returns-clause-within : goal.returns-clause-within
returns-clause-within c =
    put_within c.args.key.now c.in_ok-number.number _ c.args.sets.now c.put.new.self c.args.keys.now c.number_of.new.self c.number_of.ensures.numbered c.in_ok-number.ensures.ok c.requires c.in_ok-former.ensures.ok

pub returns-clause-ok : goal.returns-clause-ok
returns-clause-ok c =
    put_column c.args.key.now c.in_ok-number.number c.args.ids c.args.sets.now c.put.new.self c.args.keys.now c.number_of.new.self c.number_of.ensures.numbered.0 c.number_of.ensures.numbered.1 c.in_ok-number.ensures.ok c.requires c.in_ok-former.ensures.ok

pub returns-clause-former : goal.returns-clause-former
returns-clause-former c =
    c.in_ok-former.ensures.former ∙ former_column c.args.key.now c.in_ok-number.number c.args.sets.now c.args.keys.now c.number_of.new.self c.number_of.ensures.numbered.0 c.in_ok-number.ensures.ok c.requires
