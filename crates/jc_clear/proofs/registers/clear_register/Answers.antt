use Rattle.std.proofs.Common.{◌∙◌, ap, sym, refl}
use Rattle.jc_rules.specs.declared.rule.Rule.TheVariants as R
use Rattle.jc_rules.specs.Entries.{keys_of}
use Rattle.jc_rules.specs.Context.{Register}
use Rattle.jc_rules.specs.WellFormed.{IsWellFormedRegister}
use Rattle.jc_tree.proofs.CanGoBackLemmas.{then, rule_added, tree_changed}
use Rattle.jc_tree.proofs.RegistersLemmas.{register_left}
use Rattle.jc_tree.proofs.WellFormedLemmas.{register_kept}
use Rattle.jc_clear.proofs.ClearRulesLemmas.{no_register, clear_values, register_stays}
use Rattle.jc_clear.proofs.registers.clear_register.Goals as goal

pub set_register_at-requires-clause-kept : goal.set_register_at-requires-clause-kept
set_register_at-requires-clause-kept g c =
    let at = c.requires.0 in
    let n = c.requires.1 in
    register_left c.args.deps.now c.in-Some.pairs.now _ (register_kept at c.args.key.key.now c.in-Some.pairs.now _ (g.S.TreeStore.tree c.args.store.now).now (g.met.S.TreeStore.kept c.args.store.now) (g.met.S.TreeStore.there _ _ _ n) (sym (c.in-Some.ensures at n)) refl) c.in_ok-left-in-Some.ensures

pub returns-in_ok-push-in-None-clause-ok : goal.returns-in_ok-push-in-None-clause-ok
returns-in_ok-push-in-None-clause-ok g c at n =
    no_register _ _ _ _ _ _ _ _ (g.met.S.TreeStore.there _ _ _ n) (sym (c.in-None.ensures at n)) c.in_ok-push-in-None.ensures.ok refl c.new.ensures.items

pub returns-in_ok-set_register_at-in-Some-clause-ok : goal.returns-in_ok-set_register_at-in-Some-clause-ok
returns-in_ok-set_register_at-in-Some-clause-ok g c at n =
    let left : IsWellFormedRegister c.in_ok-left-in-Some.left.items = register_left c.args.deps.now c.in-Some.pairs.now _ (register_kept at c.args.key.key.now c.in-Some.pairs.now _ (g.S.TreeStore.tree c.args.store.now).now (g.met.S.TreeStore.kept c.args.store.now) (g.met.S.TreeStore.there _ _ _ n) (sym (c.in-Some.ensures at n)) refl) c.in_ok-left-in-Some.ensures in
    clear_values _ _ _ c.in-Some.pairs.now c.in_ok-left-in-Some.left.items _ _ _ _ _ (sym (c.in-Some.ensures at n)) c.in_ok-left-in-Some.ensures left c.in_ok-push-in-Some.ensures.ok (c.in_ok-set_register_at-in-Some.ensures.ok at n).now (c.in_ok-ids-in-Some.ensures ∙ ap (λ (r : Register). keys_of r) c.as_slice.ensures.value)

pub returns-in_ok-set_register_at-in-Some-clause-kept : goal.returns-in_ok-set_register_at-in-Some-clause-kept
returns-in_ok-set_register_at-in-Some-clause-kept g c =
    then _ _ _ _ _ _ (rule_added _ _ _ _ R.ClearReg refl c.in_ok-push-in-Some.ensures.ok) (tree_changed _ _ _ _ _ _ (c.in_ok-set_register_at-in-Some.ensures.ok c.requires.0 c.requires.1) refl)

pub returns-then-is_same-clause-ok : goal.returns-then-is_same-clause-ok
returns-then-is_same-clause-ok g c at n =
    let left : IsWellFormedRegister c.in_ok-left-in-Some.left.items = register_left c.args.deps.now c.in-Some.pairs.now _ (register_kept at c.args.key.key.now c.in-Some.pairs.now _ (g.S.TreeStore.tree c.args.store.now).now (g.met.S.TreeStore.kept c.args.store.now) (g.met.S.TreeStore.there _ _ _ n) (sym (c.in-Some.ensures at n)) refl) c.in_ok-left-in-Some.ensures in
    clear_values _ _ _ c.in-Some.pairs.now c.in_ok-left-in-Some.left.items _ _ _ _ _ (sym (c.in-Some.ensures at n)) c.in_ok-left-in-Some.ensures left c.in_ok-push-in-Some.ensures.ok (register_stays at c.args.key.key.now c.in-Some.pairs.now c.in_ok-left-in-Some.left.items (g.S.TreeStore.tree c.args.store.now) (g.met.S.TreeStore.there _ _ _ n) (sym (c.in-Some.ensures at n)) (c.is_same.ensures.0 c.if-is_same.true ∙ c.as_slice-in-Some.ensures.value)) (c.in_ok-ids-in-Some.ensures ∙ ap (λ (r : Register). keys_of r) c.as_slice.ensures.value)
