use Rattle.std.proofs.Common.{ℕ, ◌≡◌, ◌+◌, ◌<◌, List, length, take, drop, refl, sym, ◌∙◌, ap, subst, arith, rules}
use Rattle.jc_rules.specs.declared.key.Tagged.{Tagged}
use Rattle.jc_rules.specs.declared.rule.Rule.TheVariants as R
use Rattle.jc_rules.specs.Context.{Context}
use Rattle.jc_rules.specs.Trace.{Rows, pushed, one_deeper, at_depth}
use Rattle.jc_tree.specs.Tree.{here}
use Rattle.jc_tree.proofs.CanGoBackLemmas.{then, rule_opened, rows_added, only_tree, depth_changed}
use Rattle.jc_apply.specs.Fits.{Fits}
use Rattle.jc_apply.proofs.DescendLemmas.{child_added, child_here, descended}
use Rattle.jc_apply.proofs.FitsBelowLemmas.{fits_below}
use Rattle.jc_apply.proofs.LinksLemmas.{none_then, only_after}
use Rattle.jc_apply.proofs.apply.+operate.Goals as goal

pub enter_below-requires-clause-context : goal.enter_below-requires-clause-context
enter_below-requires-clause-context g t c =
    let path = c.args.op.now.cursor.path in
    let within : c.args.depth < length path = search rules in
    (fits_below (here (take c.args.depth path) (g.S.TreeStore.tree c.args.store.now)) path _ c.args.depth _ _ _ c.as_slice-path.ensures.keys within c.index-path-depth.is c.requires.fits).context

pub operate-requires : goal.operate-requires
operate-requires g t c κs h =
    let path = c.args.op.now.cursor.path in
    let at = take c.args.depth path in
    let id = c.args.op.now.id in
    let within : c.args.depth < length path = search rules in
    let tree = g.S.TreeStore.tree c.args.store.now in
    let below = fits_below (here at tree) path _ c.args.depth _ _ _ c.as_slice-path.ensures.keys within c.index-path-depth.is c.requires.fits in
    let stays = c.in_ok-was.ensures.names_stay _ _ c.requires.named in
    let entered = c.in_ok-child.ensures.ok at stays in
    let is = child_added c.index-path-depth.result id c.args.op.now.mutation c.in_ok-was.was' at tree (g.S.TreeStore.tree c.add_op.new.store) (g.S.TreeStore.tree c.enter_below.new.store) c.open.new.self c.enter_below.new.trace (g.met.S.TreeStore.there _ _ _ c.requires.named) (c.in_ok-was.ensures.ok at c.requires.named) entered in
    let one_deeper : here (take (c.args.depth + 1) path) (g.S.TreeStore.tree c.enter_below.new.store) ≡ entered.below = child_here _ _ _ _ _ _ _ (g.met.S.TreeStore.there _ _ _ stays) below.context below.down entered in
    let named = subst (λ (p : List Tagged). g.S.TreeStore.names c.enter_below.new.store c.in_ok-child.child p) (sym below.down) (c.in_ok-child.ensures.named at stays) in
    let links = none_then _ _ _ _ (c.in_ok-was.ensures.links at c.requires.named) (c.in_ok-child.ensures.links at stays) in
    let fit = subst (λ (x : Context). Fits x (drop (c.args.depth + 1) path) c.args.op.now.cursor.last c.args.op.now.mutation) (sym one_deeper) (below.fits entered.below is) in
    (omega (arith, within), (h, (omega (arith, within), (named, (links.chained c.requires.chained, (links.unlinked id c.requires.fresh, fit))))))

pub close-requires : goal.close-requires
close-requires g t c =
    let at = take c.args.depth c.args.op.now.cursor.path in
    let added = c.in_ok-was.ensures.ok at c.requires.named in
    let told = c.in_ok-trace_added.ensures.ok c.index-path-depth.result c.args.op.now.id c.args.op.now.mutation (here at (g.S.TreeStore.tree c.args.store.now)) added.after added.added in
    let entered = c.in_ok-child.ensures.ok at (c.in_ok-was.ensures.names_stay _ _ c.requires.named) in
    omega (arith, c.depth-above.ensures, ap (λ (r : Rows). r.depth) {x = c.open.new.self} {y = one_deeper (pushed c.args.trace.now R.Descend)} c.in_ok-open.ensures.ok, entered.derives.depth, c.in_ok-operate.ensures.ok.derives.depth, told.depth)

pub returns-clause-ok : goal.returns-clause-ok
returns-clause-ok g t c =
    let path = c.args.op.now.cursor.path in
    let at = take c.args.depth path in
    let within : c.args.depth < length path = search rules in
    let below = fits_below (here at (g.S.TreeStore.tree c.args.store.now)) path _ c.args.depth _ _ _ c.as_slice-path.ensures.keys within c.index-path-depth.is c.requires.fits in
    let stays = c.in_ok-was.ensures.names_stay _ _ c.requires.named in
    descended c.args.op.now c.index-path-depth.result at (take (c.args.depth + 1) path) (drop c.args.depth path) (drop (c.args.depth + 1) path) _ _ _ _ _ _ _ _ _ _ _ (g.met.S.TreeStore.there _ _ _ c.requires.named) below.context below.down below.rest c.in_ok-open.ensures.ok (c.in_ok-was.ensures.ok at c.requires.named) (c.in_ok-child.ensures.ok at stays) c.in_ok-operate.ensures.ok c.in_ok-trace_added.ensures.ok (c.close.ensures ∙ ap (λ (n : ℕ). at_depth n c.trace_added.new.trace) c.depth-above.ensures)

pub returns-clause-links : goal.returns-clause-links
returns-clause-links g t c =
    let at = take c.args.depth c.args.op.now.cursor.path in
    only_after _ _ _ _ _ (none_then _ _ _ _ (c.in_ok-was.ensures.links at c.requires.named) (c.in_ok-child.ensures.links at (c.in_ok-was.ensures.names_stay _ _ c.requires.named))) c.in_ok-operate.ensures.links

pub returns-clause-kept : goal.returns-clause-kept
returns-clause-kept g t c =
    then _ _ _ _ _ _ (rule_opened _ _ _ _ R.Descend refl c.in_ok-open.ensures.ok) (then _ _ _ _ _ _ (only_tree _ _ _ _ c.in_ok-was.ensures.kept refl) (then _ _ _ _ _ _ c.in_ok-child.ensures.kept (then _ _ _ _ _ _ c.in_ok-operate.ensures.kept (then _ _ _ _ _ _ (rows_added _ _ _ _ refl c.in_ok-trace_added.ensures.kept) (depth_changed _ _ _ _ _ refl c.close.ensures)))))
