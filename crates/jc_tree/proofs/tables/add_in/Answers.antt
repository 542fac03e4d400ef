use Rattle.std.proofs.Common.{List, Option, ◌∙◌, ap}
use Rattle.jc_rules.specs.declared.id.Id.{Id}
use Rattle.jc_rules.specs.Order.{key_cmp}
use Rattle.jc_rules.specs.Entries.{put}
use Rattle.jc_rules.specs.Ids.{with_id}
use Rattle.jc_tree.specs.Tree.{or_no_entries, has_ids}
use Rattle.jc_tree.specs.Undo.{former_of_id}
use Rattle.jc_tree.specs.Numbered.{column_entries}
use Rattle.jc_tree.specs.Tables.MayNumber.{numbers}
use Rattle.jc_tree.proofs.SortedMapLemmas.{as_err}
use Rattle.jc_tree.proofs.ColumnLemmas.{same_column, former_column, put_column}
use Rattle.jc_tree.proofs.TablesLemmas.{put_within}
use Rattle.jc_tree.proofs.tables.add_in.Goals as goal

pub returns-in_err-added-clause-numbers : goal.returns-in_err-added-clause-numbers
returns-in_err-added-clause-numbers c = numbers c.in_ok-number.number c.number_of.ensures.numbered.0 c.in_ok-number.ensures.ok

pub returns-in_err-added-clause-err : goal.returns-in_err-added-clause-err
returns-in_err-added-clause-err c =
    as_err _ (ap (λ d. column_entries d c.number_of.new.self) c.in_err-added.ensures.err ∙ same_column c.args.key c.in_ok-number.number c.args.sets.now c.args.keys.now c.number_of.new.self c.number_of.ensures.numbered.0 c.in_ok-number.ensures.ok c.requires)

pub returns-clause-numbers : goal.returns-clause-numbers
returns-clause-numbers c = numbers c.in_ok-number.number c.number_of.ensures.numbered.0 c.in_ok-number.ensures.ok

pub returns-clause-within : goal.returns-clause-within
returns-clause-within c =
    put_within c.args.key c.in_ok-number.number _ c.args.sets.now c.add.new.self c.args.keys.now c.number_of.new.self c.number_of.ensures.numbered c.in_ok-number.ensures.ok c.requires c.in_ok-added.ensures.ok

pub returns-clause-ok : goal.returns-clause-ok
returns-clause-ok c =
    put_column c.args.key c.in_ok-number.number _ c.args.sets.now c.add.new.self c.args.keys.now c.number_of.new.self c.number_of.ensures.numbered.0 c.number_of.ensures.numbered.1 c.in_ok-number.ensures.ok c.requires c.in_ok-added.ensures.ok
    ∙ ap (λ (o : Option (List Id)). put key_cmp c.args.key (with_id c.args.id (or_no_entries o)) (column_entries c.args.sets.now c.args.keys.now)) (former_column c.args.key c.in_ok-number.number c.args.sets.now c.args.keys.now c.number_of.new.self c.number_of.ensures.numbered.0 c.in_ok-number.ensures.ok c.requires)

pub returns-clause-former : goal.returns-clause-former
returns-clause-former c =
    c.in_ok-added.ensures.former ∙ ap (λ (o : Option (List Id)). former_of_id c.args.key c.args.id o) (former_column c.args.key c.in_ok-number.number c.args.sets.now c.args.keys.now c.number_of.new.self c.number_of.ensures.numbered.0 c.in_ok-number.ensures.ok c.requires)

pub returns-clause-was : goal.returns-clause-was
returns-clause-was c =
    c.in_ok-added.ensures.was ∙ ap (λ (o : Option (List Id)). has_ids (or_no_entries o)) (former_column c.args.key c.in_ok-number.number c.args.sets.now c.args.keys.now c.number_of.new.self c.number_of.ensures.numbered.0 c.in_ok-number.ensures.ok c.requires)
