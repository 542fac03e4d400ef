use Rattle.jc_tree.proofs.CanGoBackLemmas.{then, rows_added, tree_changed}
use Rattle.jc_apply.proofs.ApplyRulesLemmas.{added, on_ok}
use Rattle.jc_apply.proofs.LinksLemmas.{none_presence}
use Rattle.std.proofs.Common.{refl}
use Rattle.jc_apply.proofs.assigning.add_id.Goals as goal

pub returns-clause-ok : goal.returns-clause-ok
returns-clause-ok g c at named =
    added c.trace_added.result at c.args.key.now c.args.id _ _ _ _ _ (c.in_ok-was.ensures.was at named) (c.in_ok-was.ensures.ok at named) c.trace_added.ensures.ok

pub returns-clause-links : goal.returns-clause-links
returns-clause-links g c at named =
    on_ok _ (λ e. none_presence at c.args.key.now _ _ _ (g.met.S.TreeStore.there _ _ _ named) (c.in_ok-was.ensures.ok at named)) c.trace_added.ensures.ok

pub returns-clause-kept : goal.returns-clause-kept
returns-clause-kept g c =
    then _ _ _ _ _ _ (tree_changed _ _ _ _ _ _ (c.in_ok-was.ensures.ok c.requires.0 c.requires.1) refl) (rows_added _ _ _ _ refl c.trace_added.ensures.kept)
