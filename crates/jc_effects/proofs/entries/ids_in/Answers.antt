use Rattle.std.proofs.Common.{None, option_copied, sym, ◌∙◌, ap, subst}
use Rattle.jc_effects.specs.Parts.{IsNameOf}
use Rattle.jc_effects.proofs.PartsReadLemmas.{is_new, ids_read, ids_rise}
use Rattle.jc_effects.proofs.entries.ids_in.Goals as goal

pub returns-in_default-clause-ids : goal.returns-in_default-clause-ids
returns-in_default-clause-ids g c at named =
    let store = c.args.store.now in
    let tree = g.S.TreeStore.tree store in
    let none = subst (IsNameOf (g.S.TreeStore.names store) tree at) c.in_default.is named in
    sym ((is_new at tree.now none).ids c.args.key.now)

pub returns-in-Some-presence_by-clause-ids : goal.returns-in-Some-presence_by-clause-ids
returns-in-Some-presence_by-clause-ids g c at named =
    let store = c.args.store.now in
    let tree = g.S.TreeStore.tree store in
    let found = subst (IsNameOf (g.S.TreeStore.names store) tree at) c.in-Some.is named in
    ids_read at c.args.key.now tree _ (g.met.S.TreeStore.there store _ at found) (sym (ap option_copied c.in-Some-presence_by.is) ∙ c.presence_by.ensures at found)

pub returns-in-Some-presence_by-clause-rising : goal.returns-in-Some-presence_by-clause-rising
returns-in-Some-presence_by-clause-rising g c =
    let store = c.args.store.now in
    let tree = g.S.TreeStore.tree store in
    let found = subst (IsNameOf (g.S.TreeStore.names store) tree c.requires.0) c.in-Some.is c.requires.1 in
    ids_rise c.requires.0 c.args.key.now tree _ (g.met.S.TreeStore.there store _ c.requires.0 found) (g.met.S.TreeStore.kept store) (sym (ap option_copied c.in-Some-presence_by.is) ∙ c.presence_by.ensures c.requires.0 found)

pub returns-in-None-clause-ids : goal.returns-in-None-clause-ids
returns-in-None-clause-ids g c at named =
    let store = c.args.store.now in
    let tree = g.S.TreeStore.tree store in
    let found = subst (IsNameOf (g.S.TreeStore.names store) tree at) c.in-Some.is named in
    ids_read at c.args.key.now tree None (g.met.S.TreeStore.there store _ at found) (sym (ap option_copied c.in-None.is) ∙ c.presence_by.ensures at found)
