use Rattle.std.proofs.Common.{ℕ, refl, ◌∙◌, ap, arith}
use Rattle.jc_rules.specs.declared.rule.Rule.TheVariants as R
use Rattle.jc_rules.specs.Trace.{Rows, at_depth}
use Rattle.jc_tree.proofs.CanGoBackLemmas.{then, nothing, rule_opened, rows_added, tree_changed, depth_changed}
use Rattle.jc_apply.proofs.InsertLemmas.{inserted, linked_only}
use Rattle.jc_apply.proofs.inserting.insert.Goals as goal

pub close-requires : goal.close-requires
close-requires g c =
    let at = c.requires.linked.0 in
    let named = c.requires.linked.1 in
    omega (arith, c.depth-depth.ensures, (c.in_ok-key.ensures.ok at named).deeper, ap (λ (r : Rows). r.depth) c.in_ok-open.ensures.ok, (c.in_ok-assign.ensures.ok at named).derives.depth)

pub returns-in_err-set_next_at-2-clause-kept : goal.returns-in_err-set_next_at-2-clause-kept
returns-in_err-set_next_at-2-clause-kept g c =
    let at = c.requires.linked.0 in
    let assigned = c.in_ok-assign.ensures.names_stay _ _ c.requires.linked.1 in
    then _ _ _ _ _ _ (rows_added _ _ _ _ refl c.in_ok-key.ensures.kept) (then _ _ _ _ _ _ (rule_opened _ _ _ _ R.Insert1 refl c.in_ok-open.ensures.ok) (then _ _ _ _ _ _ c.in_ok-assign.ensures.kept (then _ _ _ _ _ _ (tree_changed _ _ _ _ _ _ (c.in_ok-set_next_at.ensures.ok at assigned) refl) (nothing _ _ _ _ c.in_err-set_next_at-2.ensures.err refl))))

pub returns-clause-ok : goal.returns-clause-ok
returns-clause-ok g c at named =
    let assigned = c.in_ok-assign.ensures.names_stay _ _ named in
    let linked = c.in_ok-set_next_at.ensures.names_stay _ _ assigned in
    inserted at c.args.op.now c.args.value.now _ _ _ _ _ _ _ _ _ _ _ _ (g.met.S.TreeStore.there _ _ _ named) c.requires.inserts (c.in_ok-key.ensures.ok at named) c.in_ok-open.ensures.ok refl (c.in_ok-assign.ensures.ok at named) (c.in_ok-set_next_at.ensures.ok at assigned) (c.in_ok-set_next_at-2.ensures.ok at linked) (c.close.ensures ∙ ap (λ (n : ℕ). at_depth n c.assign.new.trace) c.depth-depth.ensures)

pub returns-clause-links : goal.returns-clause-links
returns-clause-links g c =
    let at = c.requires.linked.0 in
    let named = c.requires.linked.1 in
    let assigned = c.in_ok-assign.ensures.names_stay _ _ named in
    let linked = c.in_ok-set_next_at.ensures.names_stay _ _ assigned in
    linked_only at c.args.op.now.id _ _ _ _ _ _ (g.met.S.TreeStore.there _ _ _ assigned) c.requires.chained c.requires.fresh (c.in_ok-key.ensures.ok at named).follows (c.in_ok-assign.ensures.links at named) (c.in_ok-set_next_at.ensures.ok at assigned) (c.in_ok-set_next_at-2.ensures.ok at linked)

pub returns-clause-kept : goal.returns-clause-kept
returns-clause-kept g c =
    let at = c.requires.linked.0 in
    let assigned = c.in_ok-assign.ensures.names_stay _ _ c.requires.linked.1 in
    let linked = c.in_ok-set_next_at.ensures.names_stay _ _ assigned in
    then _ _ _ _ _ _ (rows_added _ _ _ _ refl c.in_ok-key.ensures.kept) (then _ _ _ _ _ _ (rule_opened _ _ _ _ R.Insert1 refl c.in_ok-open.ensures.ok) (then _ _ _ _ _ _ c.in_ok-assign.ensures.kept (then _ _ _ _ _ _ (tree_changed _ _ _ _ _ _ (c.in_ok-set_next_at.ensures.ok at assigned) refl) (then _ _ _ _ _ _ (tree_changed _ _ _ _ _ _ (c.in_ok-set_next_at-2.ensures.ok at linked) refl) (depth_changed _ _ _ _ _ refl c.close.ensures)))))
