use Rattle.std.proofs.Common.{ℕ, refl, sym, ◌∙◌, ap, arith}
use Rattle.jc_rules.specs.declared.operation.Mutation.TheVariants.{Assign}
use Rattle.jc_rules.specs.Trace.{Rows, at_depth}
use Rattle.jc_tree.proofs.CanGoBackLemmas.{then, rule_opened, depth_changed}
use Rattle.jc_apply.specs.Fits.{empty_of}
use Rattle.jc_apply.proofs.ApplyRulesLemmas.{emptied, adds_assigned}
use Rattle.jc_apply.proofs.LinksLemmas.{none_cleared, none_then}
use Rattle.jc_apply.proofs.assigning.assign_empty.Goals as goal

pub close-requires : goal.close-requires
close-requires g c =
    let at = c.requires.named.0 in
    let cleared = c.in_ok-clear_elem_at.ensures.names_stay _ _ c.requires.named.1 in
    let added = c.in_ok-add_id.ensures.names_stay _ _ cleared in
    omega (arith, c.depth-depth.ensures, ap (λ (r : Rows). r.depth) c.in_ok-open.ensures.ok, (c.in_ok-clear_elem_at.ensures.ok at c.requires.named.1).derives.depth, (c.in_ok-add_id.ensures.ok at cleared c.args.key.now (Assign (empty_of c.args.key.now)) (sym c.key-2.ensures) adds_assigned).derives.depth, (c.in_ok-enter_below.ensures.ok at added).derives.depth)

pub returns-clause-ok : goal.returns-clause-ok
returns-clause-ok g c at named =
    let cleared = c.in_ok-clear_elem_at.ensures.names_stay _ _ named in
    let added = c.in_ok-add_id.ensures.names_stay _ _ cleared in
    emptied at c.args.op.now c.args.key.now c.key.result.now c.empty_rule.result _ _ _ _ _ _ _ _ _ _ _ (g.met.S.TreeStore.there _ _ _ named) c.empty_rule.ensures c.key.ensures c.in_ok-open.ensures.ok (c.in_ok-clear_elem_at.ensures.ok at named) (c.in_ok-add_id.ensures.ok at cleared c.args.key.now (Assign (empty_of c.args.key.now)) (sym c.key-2.ensures) adds_assigned) (c.in_ok-enter_below.ensures.ok at added) (c.close.ensures ∙ ap (λ (n : ℕ). at_depth n c.enter_below.new.trace) c.depth-depth.ensures)

pub returns-clause-links : goal.returns-clause-links
returns-clause-links g c at named =
    let cleared = c.in_ok-clear_elem_at.ensures.names_stay _ _ named in
    let added = c.in_ok-add_id.ensures.names_stay _ _ cleared in
    none_then _ _ _ _ (none_cleared _ _ _ _ _ _ _ (g.met.S.TreeStore.there _ _ _ named) (c.in_ok-clear_elem_at.ensures.ok at named)) (none_then _ _ _ _ (c.in_ok-add_id.ensures.links at cleared) (c.in_ok-enter_below.ensures.links at added))

pub returns-clause-kept : goal.returns-clause-kept
returns-clause-kept g c =
    then _ _ _ _ _ _ (rule_opened _ _ _ _ c.empty_rule.result refl c.in_ok-open.ensures.ok) (then _ _ _ _ _ _ c.in_ok-clear_elem_at.ensures.kept (then _ _ _ _ _ _ c.in_ok-add_id.ensures.kept (then _ _ _ _ _ _ c.in_ok-enter_below.ensures.kept (depth_changed _ _ _ _ _ refl c.close.ensures))))
