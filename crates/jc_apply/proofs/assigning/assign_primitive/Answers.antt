use Rattle.std.proofs.Common.{ℕ, refl, ◌∙◌, ap, arith}
use Rattle.jc_rules.specs.declared.key.Tagged.TheVariants.{RegT}
use Rattle.jc_rules.specs.declared.operation.Mutation.TheVariants.{Assign}
use Rattle.jc_rules.specs.declared.rule.Rule.TheVariants as R
use Rattle.jc_rules.specs.Trace.{Rows, at_depth}
use Rattle.jc_tree.specs.Tree.{here}
use Rattle.jc_tree.proofs.CanGoBackLemmas.{nothing, then, rule_opened, rule_added, tree_changed, depth_changed}
use Rattle.jc_apply.proofs.ApplyRulesLemmas.{assigned, adds_assigned}
use Rattle.jc_apply.proofs.LinksLemmas.{none_cleared, none_register, none_then}
use Rattle.jc_apply.proofs.assigning.assign_primitive.Goals as goal

pub close-requires : goal.close-requires
close-requires g c =
    let at = c.requires.named.0 in
    let cleared = c.in_ok-clear_at.ensures.names_stay _ _ c.requires.named.1 in
    omega (arith, c.depth-depth.ensures, ap (λ (r : Rows). r.depth) c.in_ok-open.ensures.ok, (c.in_ok-clear_at.ensures.ok at c.requires.named.1).derives.depth, (c.in_ok-add_id.ensures.ok at cleared (RegT c.args.key.key.now) (Assign c.args.value.now) refl adds_assigned).derives.depth, ap (λ (r : Rows). r.depth) c.in_ok-push.ensures.ok)

pub returns-clause-ok : goal.returns-clause-ok
returns-clause-ok g c at named =
    let last = c.args.key.key.now in
    let cleared = c.in_ok-clear_at.ensures.names_stay _ _ named in
    let added = c.in_ok-add_id.ensures.names_stay _ _ cleared in
    assigned at c.args.op.now last c.args.value.now _ _ c.register_rule.result _ _ _ _ _ _ _ _ _ _ _ (g.met.S.TreeStore.there _ _ _ named) c.requires.primitive (ap RegT c.in_ok-copy.ensures) c.in_ok-open.ensures.ok (c.in_ok-clear_at.ensures.ok at named) (c.in_ok-add_id.ensures.ok at cleared (RegT last) (Assign c.args.value.now) refl adds_assigned) c.in_ok-copy-2.ensures (c.in_ok-was.ensures.ok at added) (c.register_rule.ensures (here at (g.S.TreeStore.tree c.add_id.new.store)) last (c.in_ok-was.ensures.was at added)) c.in_ok-push.ensures.ok (c.close.ensures ∙ ap (λ (n : ℕ). at_depth n c.push.new.self) c.depth-depth.ensures)

pub returns-clause-links : goal.returns-clause-links
returns-clause-links g c at named =
    let cleared = c.in_ok-clear_at.ensures.names_stay _ _ named in
    let added = c.in_ok-add_id.ensures.names_stay _ _ cleared in
    let there = g.met.S.TreeStore.there _ _ _ named in
    let after = g.met.S.TreeStore.there _ _ _ added in
    none_then _ _ _ _ (none_cleared _ _ _ _ _ _ _ there (c.in_ok-clear_at.ensures.ok at named)) (none_then _ _ _ _ (c.in_ok-add_id.ensures.links at cleared) (none_register _ _ _ _ _ after (c.in_ok-was.ensures.ok at added)))

pub returns-clause-kept : goal.returns-clause-kept
returns-clause-kept g c =
    let at = c.requires.named.0 in
    let cleared = c.in_ok-clear_at.ensures.names_stay _ _ c.requires.named.1 in
    let added = c.in_ok-add_id.ensures.names_stay _ _ cleared in
    then _ _ _ _ _ _ (rule_opened _ _ _ _ R.Assign refl c.in_ok-open.ensures.ok) (then _ _ _ _ _ _ c.in_ok-clear_at.ensures.kept (then _ _ _ _ _ _ c.in_ok-add_id.ensures.kept (then _ _ _ _ _ _ (tree_changed _ _ _ _ _ _ (c.in_ok-was.ensures.ok at added) refl) (then _ _ _ _ _ _ (rule_added _ _ _ _ c.register_rule.result refl c.in_ok-push.ensures.ok) (depth_changed _ _ _ _ _ refl c.close.ensures)))))

pub returns-in_err-push-clause-kept : goal.returns-in_err-push-clause-kept
returns-in_err-push-clause-kept g c =
    let at = c.requires.named.0 in
    let cleared = c.in_ok-clear_at.ensures.names_stay _ _ c.requires.named.1 in
    let added = c.in_ok-add_id.ensures.names_stay _ _ cleared in
    then _ _ _ _ _ _ (rule_opened _ _ _ _ R.Assign refl c.in_ok-open.ensures.ok) (then _ _ _ _ _ _ c.in_ok-clear_at.ensures.kept (then _ _ _ _ _ _ c.in_ok-add_id.ensures.kept (then _ _ _ _ _ _ (tree_changed _ _ _ _ _ _ (c.in_ok-was.ensures.ok at added) refl) (nothing _ _ _ _ refl c.in_err-push.ensures.err))))

pub returns-in_err-was-clause-kept : goal.returns-in_err-was-clause-kept
returns-in_err-was-clause-kept g c =
    then _ _ _ _ _ _ (rule_opened _ _ _ _ R.Assign refl c.in_ok-open.ensures.ok) (then _ _ _ _ _ _ c.in_ok-clear_at.ensures.kept (then _ _ _ _ _ _ c.in_ok-add_id.ensures.kept (nothing _ _ _ _ c.in_err-was.ensures.err refl)))
