use Rattle.std.proofs.Common.{sym, ◌∙◌, subst}
use Rattle.jc_rules.specs.declared.key.Tagged.TheVariants.{MapT, ListT, RegT}
use Rattle.jc_effects.specs.Parts.{IsNameOf}
use Rattle.jc_effects.proofs.PartsReadLemmas.{is_new, tag_read, register_read, copied_some}
use Rattle.jc_effects.proofs.entries.tags_in.Goals as goal

pub returns-in-Some-clause-map : goal.returns-in-Some-clause-map
returns-in-Some-clause-map g c at named =
    let store = c.args.store.now in
    let tree = g.S.TreeStore.tree store in
    let found = subst (IsNameOf (g.S.TreeStore.names store) tree at) c.in-Some.is named in
    tag_read at (MapT c.args.key.now) tree _ (g.met.S.TreeStore.there store _ at found) (c.is_some.ensures ∙ c.map_by.ensures.some at found)

pub returns-in-Some-clause-list : goal.returns-in-Some-clause-list
returns-in-Some-clause-list g c at named =
    let store = c.args.store.now in
    let tree = g.S.TreeStore.tree store in
    let found = subst (IsNameOf (g.S.TreeStore.names store) tree at) c.in-Some.is named in
    tag_read at (ListT c.args.key.now) tree _ (g.met.S.TreeStore.there store _ at found) (c.is_some-in-Some.ensures ∙ c.list_by.ensures.some at found)

pub returns-in-Some-clause-register : goal.returns-in-Some-clause-register
returns-in-Some-clause-register g c at named =
    let store = c.args.store.now in
    let tree = g.S.TreeStore.tree store in
    let found = subst (IsNameOf (g.S.TreeStore.names store) tree at) c.in-Some.is named in
    register_read at c.args.key.now tree _ _ (g.met.S.TreeStore.there store _ at found) (c.register_by.ensures at found) (c.is_some-in-Some-2.ensures ∙ copied_some _)

pub returns-in-None-clause-map : goal.returns-in-None-clause-map
returns-in-None-clause-map g c at named =
    let store = c.args.store.now in
    let tree = g.S.TreeStore.tree store in
    let none = subst (IsNameOf (g.S.TreeStore.names store) tree at) c.in-None.is named in
    sym ((is_new at tree.now none).tags (MapT c.args.key.now))

pub returns-in-None-clause-list : goal.returns-in-None-clause-list
returns-in-None-clause-list g c at named =
    let store = c.args.store.now in
    let tree = g.S.TreeStore.tree store in
    let none = subst (IsNameOf (g.S.TreeStore.names store) tree at) c.in-None.is named in
    sym ((is_new at tree.now none).tags (ListT c.args.key.now))

pub returns-in-None-clause-register : goal.returns-in-None-clause-register
returns-in-None-clause-register g c at named =
    let store = c.args.store.now in
    let tree = g.S.TreeStore.tree store in
    let none = subst (IsNameOf (g.S.TreeStore.names store) tree at) c.in-None.is named in
    sym ((is_new at tree.now none).tags (RegT c.args.key.now))
