use Rattle.std.proofs.Common.{None, option_copied, sym, ◌∙◌, ap, subst}
use Rattle.jc_tree.specs.Tree.{or_no_entries}
use Rattle.jc_effects.specs.Parts.{IsNameOf}
use Rattle.jc_effects.proofs.PartsReadLemmas.{is_new, pairs_read, pairs_formed}
use Rattle.jc_effects.proofs.entries.pairs_in.Goals as goal

pub returns-in_default-clause-pairs : goal.returns-in_default-clause-pairs
returns-in_default-clause-pairs g c at named =
    let store = c.args.store.now in
    let tree = g.S.TreeStore.tree store in
    let none = subst (IsNameOf (g.S.TreeStore.names store) tree at) c.in_default.is named in
    sym (ap or_no_entries ((is_new at tree.now none).register c.args.key.now))

pub returns-in-Some-register_by-clause-pairs : goal.returns-in-Some-register_by-clause-pairs
returns-in-Some-register_by-clause-pairs g c at named =
    let store = c.args.store.now in
    let tree = g.S.TreeStore.tree store in
    let found = subst (IsNameOf (g.S.TreeStore.names store) tree at) c.in-Some.is named in
    pairs_read at c.args.key.now tree _ (g.met.S.TreeStore.there store _ at found) (sym (ap option_copied c.in-Some-register_by.is) ∙ c.register_by.ensures at found)

pub returns-in-Some-register_by-clause-formed : goal.returns-in-Some-register_by-clause-formed
returns-in-Some-register_by-clause-formed g c =
    let store = c.args.store.now in
    let tree = g.S.TreeStore.tree store in
    let found = subst (IsNameOf (g.S.TreeStore.names store) tree c.requires.0) c.in-Some.is c.requires.1 in
    pairs_formed c.requires.0 c.args.key.now tree _ (g.met.S.TreeStore.there store _ c.requires.0 found) (g.met.S.TreeStore.kept store) (sym (ap option_copied c.in-Some-register_by.is) ∙ c.register_by.ensures c.requires.0 found)

pub returns-in-None-clause-pairs : goal.returns-in-None-clause-pairs
returns-in-None-clause-pairs g c at named =
    let store = c.args.store.now in
    let tree = g.S.TreeStore.tree store in
    let found = subst (IsNameOf (g.S.TreeStore.names store) tree at) c.in-Some.is named in
    pairs_read at c.args.key.now tree None (g.met.S.TreeStore.there store _ at found) (sym (ap option_copied c.in-None.is) ∙ c.register_by.ensures at found)
