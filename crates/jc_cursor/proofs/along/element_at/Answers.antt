use Rattle.std.proofs.lemmas.Result.{err_from_is_err_and}
use Rattle.jc_tree.specs.Tree.{here}
use Rattle.jc_tree.proofs.ChainedBelowLemmas.{list_here}
use Rattle.jc_cursor.proofs.ElementsLemmas.{along_goes_on, nearer_on, past_refused, along_ends}
use Rattle.jc_cursor.proofs.along.element_at.Goals as goal

pub returns-in_err-walk-clause-refused : goal.returns-in_err-walk-clause-refused
returns-in_err-walk-clause-refused g c at named =
    let p = err_from_is_err_and c.from_residual.result c.from_residual.ensures.1 in
    rw (p.1, p.2) (past_refused _ _ _ _ _ _ _ c.loop-walk-test.true (c.loop-walk.invariant at named) (c.in_err-walk.ensures.refused at named))

pub loop-walk-smaller : goal.loop-walk-smaller
loop-walk-smaller g c =
    let store = c.args.store.now in
    let tree = g.S.TreeStore.tree store in
    let at = c.requires.named.0 in
    let named = c.requires.named.1 in
    let there = g.met.S.TreeStore.there store c.args.place at named in
    rw (g.met.S.TreeStore.one store c.args.place at named) (nearer_on (here at tree) _ _ _ _ _ _ (λ x e. list_here at _ _ tree there e c.requires.chained) (c.in_ok-walk.ensures.ok at named))

pub loop-walk-preserved : goal.loop-walk-preserved
loop-walk-preserved g c at named = along_goes_on _ _ _ _ _ _ _ _ _ (c.in_ok-walk.ensures.ok at named) (c.loop-walk.invariant at named)

pub returns-clause-ok : goal.returns-clause-ok
returns-clause-ok g c at named = along_ends _ _ _ _ _ _ _ c.loop-walk-test.false (c.loop-walk.invariant at named) c.in_ok-push.ensures.ok
