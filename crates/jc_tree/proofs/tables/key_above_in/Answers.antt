use Rattle.std.proofs.Common.{option_copied, sym, ◌∙◌}
use Rattle.jc_rules.specs.Entries.{keys_of}
use Rattle.jc_tree.proofs.ColumnLemmas.{none_above_column}
use Rattle.jc_tree.proofs.TablesLemmas.{there_above, further_above}
use Rattle.jc_tree.proofs.WalksLemmas.{IsNext, next_is}
use Rattle.jc_tree.proofs.tables.key_above_in.Goals as goal

pub returns-then-is_some : goal.returns-then-is_some
returns-then-is_some g c =
    sym (sym c.loop-key.invariant ∙ there_above (option_copied c.loop-key.last) c.in-Some.key.now c.in-Some.number c.args.column.now c.args.keys.now c.above.ensures.numbered (sym c.in-Some.ensures.key) c.in-Some.ensures.number c.value_at.result c.value_at.ensures (sym c.is_some.ensures ∙ c.if-is_some.true))

pub loop-key-smaller : goal.loop-key-smaller
loop-key-smaller g c =
    let n : IsNext (option_copied c.loop-key.last) (keys_of c.args.keys.now.order) c.in-Some.key.now = next_is (option_copied c.loop-key.last) (keys_of c.args.keys.now.order) c.in-Some.key.now (sym c.in-Some.ensures.key) in
    n.fewer

pub loop-key-preserved : goal.loop-key-preserved
loop-key-preserved g c =
    sym (further_above (option_copied c.loop-key.last) c.in-Some.key.now c.in-Some.number c.args.column.now c.args.keys.now c.above.ensures.numbered (sym c.in-Some.ensures.key) c.in-Some.ensures.number c.value_at.result c.value_at.ensures (sym c.is_some.ensures ∙ c.if-is_some.false)) ∙ c.loop-key.invariant

pub returns : goal.returns
returns g c =
    sym (sym c.loop-key.invariant ∙ none_above_column (option_copied c.loop-key.last) c.args.column.now c.args.keys.now c.above.ensures.numbered (sym c.in_default.ensures.key))
