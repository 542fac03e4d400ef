use Rattle.std.proofs.Common.{List, Option, refl, sym, ◌∙◌, ap}
use Rattle.jc_rules.specs.declared.id.Id.{Id}
use Rattle.jc_tree.specs.Tree.{or_no_entries}
use Rattle.jc_tree.specs.Counted.{is_last}
use Rattle.jc_tree.specs.Undo.{out_of_set}
use Rattle.jc_tree.specs.Numbered.{column_entries}
use Rattle.jc_tree.specs.Numbered.GetsNumber.{had}
use Rattle.jc_tree.proofs.ColumnLemmas.{former_column}
use Rattle.jc_tree.proofs.TablesLemmas.{found_none}
use Rattle.jc_tree.proofs.FlagsLemmas.{out_column, out_within}
use Rattle.jc_tree.proofs.tables.take_out_in.Goals as goal

pub returns-in_default-clause-ok : goal.returns-in_default-clause-ok
returns-in_default-clause-ok c =
    let es = column_entries c.args.sets.now c.args.keys.now in
    ap (λ o. out_of_set c.args.key.now c.args.id o es) (sym (found_none c.args.key.now c.args.sets.now c.args.keys.now c.number.ensures.numbered (sym c.number.ensures.found ∙ c.in_default.is)))

pub returns-in_default-clause-last : goal.returns-in_default-clause-last
returns-in_default-clause-last c =
    ap (λ (o : Option (List Id)). is_last c.args.id (or_no_entries o)) (sym (found_none c.args.key.now c.args.sets.now c.args.keys.now c.number.ensures.numbered (sym c.number.ensures.found ∙ c.in_default.is)))

pub returns-clause-within : goal.returns-clause-within
returns-clause-within c =
    out_within c.args.key.now c.in-Some.number c.args.id c.args.sets.now c.take_out.new.self c.args.keys.now c.number.ensures.numbered (sym c.number.ensures.found ∙ c.in-Some.is) c.requires c.take_out.ensures.some c.take_out.ensures.none

pub returns-clause-ok : goal.returns-clause-ok
returns-clause-ok c =
    out_column c.args.key.now c.in-Some.number c.args.id c.args.sets.now c.take_out.new.self c.args.keys.now c.number.ensures.numbered (sym c.number.ensures.found ∙ c.in-Some.is) c.requires c.take_out.ensures.some c.take_out.ensures.none

pub returns-clause-last : goal.returns-clause-last
returns-clause-last c =
    c.take_out.ensures.last ∙ ap (λ (o : Option (List Id)). is_last c.args.id (or_no_entries o)) (former_column c.args.key.now c.in-Some.number c.args.sets.now c.args.keys.now c.args.keys.now c.number.ensures.numbered (had (sym c.number.ensures.found ∙ c.in-Some.is) refl) c.requires)
