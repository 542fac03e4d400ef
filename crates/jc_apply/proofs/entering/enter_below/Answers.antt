use Rattle.std.proofs.Common.{◌≡◌, None, true, false, is_some, sym, refl, ◌∙◌, ap}
use Rattle.jc_rules.specs.Context.{content, with_content, new_content}
use Rattle.jc_rules.specs.ContextsAt.{node_in}
use Rattle.jc_tree.specs.Tree.{here}
use Rattle.jc_tree.proofs.CanGoBackLemmas.{then, rule_added, tree_changed}
use Rattle.jc_tree.proofs.PlacesLemmas.{some_content}
use Rattle.jc_tree.proofs.TreeLemmas.{here_changed}
use Rattle.jc_apply.proofs.ApplyRulesLemmas.{entered_there, entered_new, child_there}
use Rattle.jc_apply.proofs.LinksLemmas.{none_child}
use Rattle.jc_apply.proofs.entering.enter_below.Goals as goal
use Rattle.jc_rules.proofs.BoolLemmas.{none_of}

pub returns-in-Some-clause-ok : goal.returns-in-Some-clause-ok
returns-in-Some-clause-ok g c at named =
    let some = some_content c.args.key.now (here at (g.S.TreeStore.tree c.args.store.now)) c.requires.context in
    entered_there _ _ _ _ _ _ (g.met.S.TreeStore.there _ _ _ named) c.requires.context (sym (c.in-Some.ensures.some at named ∙ some)) c.in_ok-push.ensures.ok refl

pub unreachable-requires : goal.unreachable-requires
unreachable-requires g c =
    let at = c.requires.named.0 in
    let named = c.requires.named.1 in
    let key = c.args.key.now in
    let old = g.S.TreeStore.tree c.args.store.now in
    let new = g.S.TreeStore.tree c.make_child_at.new.self in
    let there = g.met.S.TreeStore.there _ _ _ named in
    let here_now : here at new ≡ with_content key (new_content key) (here at old) = here_changed at _ old new there (c.in_ok-make_child_at.ensures.ok at named) in
    let no : false ≡ true = c.in-None.ensures.some at (c.in_ok-make_child_at.ensures.names_stay _ _ named) ∙ ap (λ d. is_some (node_in (content key d))) here_now ∙ child_there key (here at old) c.requires.context in
    cc

pub returns-clause-ok : goal.returns-clause-ok
returns-clause-ok g c at named =
    let old = here at (g.S.TreeStore.tree c.args.store.now) in
    let none : content c.args.key.now old ≡ None = none_of _ (sym (c.in_default.ensures.some at named ∙ some_content c.args.key.now old c.requires.context)) in
    entered_new _ _ c.child_rule.result _ _ _ _ c.requires.context none (c.child_rule.ensures _ none) c.in_ok-push-2.ensures.ok (c.in_ok-make_child_at.ensures.ok at named)

pub returns-clause-links : goal.returns-clause-links
returns-clause-links g c at named =
    none_child at c.args.key.now _ _ (g.met.S.TreeStore.there _ _ _ named) (c.in_ok-make_child_at.ensures.ok at named)

pub returns-clause-kept : goal.returns-clause-kept
returns-clause-kept g c =
    then _ _ _ _ _ _ (rule_added _ _ _ _ c.child_rule.result refl c.in_ok-push-2.ensures.ok) (tree_changed _ _ _ _ _ _ (c.in_ok-make_child_at.ensures.ok c.requires.named.0 c.requires.named.1) refl)
