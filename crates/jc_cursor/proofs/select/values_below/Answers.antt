use Rattle.std.proofs.Common.{◌≡◌, Some, None, ap, sym}
use Rattle.jc_rules.specs.declared.key.Tagged.TheVariants.{RegT}
use Rattle.jc_rules.specs.Context.{content, Values, values_of}
use Rattle.jc_tree.specs.Tree.{here}
use Rattle.jc_cursor.proofs.SelectLemmas.{values_down, values_on_way, values_no_register, handed_up}
use Rattle.jc_cursor.proofs.select.values_below.Goals as goal

pub returns-in_err-place-clause-refused : goal.returns-in_err-place-clause-refused
returns-in_err-place-clause-refused g c =
    handed_up _ _ _ _ c.from_residual.ensures.1 (λ why r. values_on_way _ c.args.cursor.now c.as_slice-at.result.now c.as_slice-at.ensures.keys why r) c.in_err-place.ensures.refused

pub returns-in_default-clause-refused : goal.returns-in_default-clause-refused
returns-in_default-clause-refused g c =
    let none : content (RegT c.args.cursor.now.last) (here c.as_slice-at.result.now (g.S.TreeStore.tree c.args.store.now)) ≡ None = ap values_of (sym (c.in_default.ensures c.as_slice-at.result.now c.in_ok-place.ensures.named)) in
    values_no_register _ c.args.cursor.now c.as_slice-at.result.now c.as_slice-at.ensures.keys c.in_ok-place.ensures.refuses none

pub returns-clause-ok : goal.returns-clause-ok
returns-clause-ok g c =
    let some : content (RegT c.args.cursor.now.last) (here c.as_slice-at.result.now (g.S.TreeStore.tree c.args.store.now)) ≡ Some (Values c.in-Some.pairs.now) = ap values_of (sym (c.in-Some.ensures c.as_slice-at.result.now c.in_ok-place.ensures.named)) in
    values_down _ c.args.cursor.now c.as_slice-at.result.now c.as_slice-at.ensures.keys c.in-Some.pairs.now _ _ _ _ c.in_ok-place.ensures.leads some c.in_ok-from_slice.ensures c.in_ok-push.ensures.ok
