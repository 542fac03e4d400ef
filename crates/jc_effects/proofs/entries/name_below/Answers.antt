use Rattle.std.proofs.Common.{subst}
use Rattle.jc_effects.specs.Parts.{IsNameOf}
use Rattle.jc_effects.proofs.PartsReadLemmas.{named_below, unnamed_below}
use Rattle.jc_effects.proofs.entries.name_below.Goals as goal

pub returns-in-Some : goal.returns-in-Some
returns-in-Some g c at named =
    let store = c.args.store.now in
    let names = g.S.TreeStore.names store in
    let tree = g.S.TreeStore.tree store in
    let found = subst (IsNameOf names tree at) c.in-Some.is named in
    named_below names tree at c.args.tagged.now c.below.result (g.met.S.TreeStore.there store _ at found) (c.below.ensures.some at found) (c.below.ensures.named at found)

pub returns-in-None : goal.returns-in-None
returns-in-None g c at named =
    let names = g.S.TreeStore.names c.args.store.now in
    let tree = g.S.TreeStore.tree c.args.store.now in
    unnamed_below names tree at c.args.tagged.now (subst (IsNameOf names tree at) c.in-None.is named)
