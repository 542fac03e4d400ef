use Rattle.std.proofs.Common.{map}
use Rattle.std.proofs.lemmas.List.{length-map}
use Rattle.jc_rules.specs.Entries.{IsRising}
use Rattle.jc_rules.specs.Order.{name_cmp}
use Rattle.jc_syntax.specs.Trees.{cmd_of}
use Rattle.jc_scenario.proofs.ArrangeLemmas.{found_there, inserted-rises, parts-entered}
use Rattle.jc_scenario.proofs.order.enter.Goals as goal

-- no replica has the name yet
pub unreachable-requires : goal.unreachable-requires
unreachable-requires c =
    let there = found_there c.args.replica.name c.deref.result.now c.in_default.field-0 c.in_default.ensures.bound c.in_default.ensures.position in
    c.requires.new (rw c.deref.ensures.value at there)

pub returns-clause-rising : goal.returns-clause-rising
returns-clause-rising c =
    let rises : IsRising name_cmp c.deref.result.now = rw c.deref.ensures.value c.requires.rising in
    let placed = inserted-rises c.args.replica.name c.deref.result.now c.in-Err.place rises c.in-Err.ensures.bound c.in-Err.ensures.position in
    rw c.in_ok-insert.ensures.items (rw c.deref.ensures.value at placed)

pub returns-clause-same : goal.returns-clause-same
returns-clause-same c =
    rw (c.in_ok-insert.ensures.items, c.in_ok-insert-2.ensures.items)
    (parts-entered (λ script. map cmd_of script.items) c.args.names.now.items c.args.scripts.now.items c.in-Err.place c.args.replica.name c.args.replica.script c.requires.each (length-map c.args.scripts.now.items (λ script. map cmd_of script.items)))
