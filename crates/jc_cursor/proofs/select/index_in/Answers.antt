use Rattle.std.proofs.Common.{◌∙◌, List, sym, ap}
use Rattle.jc_rules.specs.declared.key.Tagged.{Tagged}
use Rattle.jc_rules.specs.State.{ACursor}
use Rattle.jc_rules.specs.Table.{cursor}
use Rattle.jc_cursor.proofs.SelectLemmas.{deep_index, indexed, index_refused, handed_up}
use Rattle.jc_cursor.proofs.select.index_in.Goals as goal

pub returns-in_err-path-clause-refused : goal.returns-in_err-path-clause-refused
returns-in_err-path-clause-refused g c =
    handed_up _ _ _ _ c.from_residual.ensures.1 (λ why r. deep_index c.args.cursor c.args.index _ why r) c.in_err-path.ensures.refused

pub returns-in_err-last-clause-refused : goal.returns-in_err-last-clause-refused
returns-in_err-last-clause-refused g c =
    handed_up _ _ _ _ c.from_residual-in_err-last.ensures.1 (λ why r. index_refused c.args.cursor c.args.index _ c.as_slice.result.now (c.as_slice.ensures.keys ∙ c.in_ok-path.ensures.ok) c.in_ok-path.ensures.short why r) c.in_err-last.ensures.refused

pub returns-clause-ok : goal.returns-clause-ok
returns-clause-ok g c =
    indexed c.args.cursor c.args.index _ c.as_slice.result.now (c.as_slice.ensures.keys ∙ c.in_ok-path.ensures.ok) c.in_ok-path.ensures.short _ c.in_ok-last.last c.args.trace.now c.element_below.new.trace c.in_ok-last.ensures.ok (ap (λ (path : List Tagged). ACursor (cursor path c.in_ok-last.last)) (sym c.as_slice.ensures.keys))
