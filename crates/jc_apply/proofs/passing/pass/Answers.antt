use Rattle.std.proofs.Common.{List, sym, ◌∙◌, subst}
use Rattle.jc_rules.specs.declared.key.Tagged.{Tagged}
use Rattle.jc_tree.specs.Tree.{here}
use Rattle.jc_apply.proofs.UnlinkedLemmas.{unlinked_here, no_next}
use Rattle.jc_tree.proofs.ChainedBelowLemmas.{list_here}
use Rattle.jc_apply.proofs.InsertLemmas.{first_pass, passed_on, last_pass, linked_over}
use Rattle.jc_apply.proofs.passing.pass.Goals as goal

pub loop-search-init : goal.loop-search-init
loop-search-init g c at named =
    let tree = g.S.TreeStore.tree c.args.store.now in
    let follows = c.search_at-search.ensures.next at named in
    first_pass c.args.op.now (here at tree) c.search_at-search.result.key c.search_at-search.result.next c.args.trace.now (list_here at c.search_at-search.result.key c.search_at-search.result.next tree (g.met.S.TreeStore.there _ _ _ named) follows c.requires.chained) (c.search_at-search.ensures.key ∙ c.in_ok-key.ensures) follows

pub search_at-search-requires-in-Some : goal.search_at-search-requires-in-Some
search_at-search-requires-in-Some g c =
    let at = c.requires.linked.0 in
    let named = c.requires.linked.1 in
    let on = rw c.in-Some.is at (c.in_ok-key-2.ensures.some at named) in
    (at, named, linked_over c.args.op.now (here at (g.S.TreeStore.tree c.args.store.now)) c.loop-search.search.key c.in-Some.key c.loop-search.search.next c.args.trace.now c.loop-search.trace c.pass_on.new.trace (c.loop-search.invariant at named) on)

pub loop-search-smaller : goal.loop-search-smaller
loop-search-smaller g c =
    let at = g.S.TreeStore.path c.args.store.now c.args.place in
    let named = subst (λ (p : List Tagged). g.S.TreeStore.names c.args.store.now c.args.place p) (sym (g.met.S.TreeStore.one _ _ _ c.requires.linked.1)) c.requires.linked.1 in
    let s = c.search_at-search-in-Some.result in
    let on = rw c.in-Some.is at (c.in_ok-key-2.ensures.some at named) in
    (passed_on c.args.op.now c.requires.inserts.0 (here at (g.S.TreeStore.tree c.args.store.now)) c.loop-search.search.key s.key c.loop-search.search.next s.next c.args.trace.now c.loop-search.trace c.pass_on.new.trace c.requires.inserts.1 (c.loop-search.invariant at named) (rw (← c.search_at-search-in-Some.ensures.key) at on) (c.search_at-search-in-Some.ensures.next at named)).1

pub loop-search-preserved : goal.loop-search-preserved
loop-search-preserved g c at named =
    let s = c.search_at-search-in-Some.result in
    let on = rw c.in-Some.is at (c.in_ok-key-2.ensures.some at named) in
    (passed_on c.args.op.now c.requires.inserts.0 (here at (g.S.TreeStore.tree c.args.store.now)) c.loop-search.search.key s.key c.loop-search.search.next s.next c.args.trace.now c.loop-search.trace c.pass_on.new.trace c.requires.inserts.1 (c.loop-search.invariant at named) (rw (← c.search_at-search-in-Some.ensures.key) at on) (c.search_at-search-in-Some.ensures.next at named)).0

pub returns-clause-ok : goal.returns-clause-ok
returns-clause-ok g c at named =
    let tree = g.S.TreeStore.tree c.args.store.now in
    let there = g.met.S.TreeStore.there _ _ _ named in
    let none = c.in_ok-key-2.ensures.none c.in_default.is in
    rw none.0 (last_pass c.args.op.now (here at tree) c.loop-search.search.key c.loop-search.search.next c.args.trace.now c.loop-search.trace (c.loop-search.invariant at named) (no_next c.args.op.now.id (here at tree) (unlinked_here c.args.op.now.id at tree there c.requires.fresh)) none.1)
