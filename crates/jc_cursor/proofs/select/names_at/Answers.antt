use Rattle.std.proofs.Common.{◌∙◌, add-one}
use Rattle.jc_tree.specs.Tree.{here}
use Rattle.jc_cursor.proofs.MapNamesLemmas.{named_on, named_all}
use Rattle.jc_cursor.proofs.select.names_at.Goals as goal

pub loop-lent-preserved : goal.loop-lent-preserved
loop-lent-preserved g c at named =
    let d = here at (g.S.TreeStore.tree c.args.store.now) in
    rw add-one (named_on c.as_slice-lent-items.result.now c.loop-lent.lent-index c.lent-item.result d c.loop-lent.names.items c.push_name.new.names.items c.loop-lent-test.true c.lent-item.is (c.loop-lent.invariant at named) (c.in_ok-push_name.ensures at named))

pub returns : goal.returns
returns g c at named =
    let lent = c.as_slice-lent-items.result.now in
    let store = c.args.store.now in
    c.new.ensures ∙ named_all lent c.loop-lent.lent-index at (g.S.TreeStore.tree store).now c.loop-lent.names.items c.loop-lent-test.false (g.met.S.TreeStore.there store c.args.place at named) (g.met.S.TreeStore.kept store) (rw c.as_slice-lent-items.ensures.value c.in_ok-keys.ensures.rising) (rw c.as_slice-lent-items.ensures.value (c.in_ok-keys.ensures.all at named)) (c.loop-lent.invariant at named)
