use Rattle.std.proofs.Common.{sym, ◌∙◌, ap, subst}
use Rattle.jc_rules.specs.Context.{next}
use Rattle.jc_apply.specs.Fits.{made_under}
use Rattle.jc_effects.specs.Parts.{IsNameOf}
use Rattle.jc_effects.proofs.PartsReadLemmas.{seen_here, seen_none}
use Rattle.jc_effects.proofs.entries.link_in.Goals as goal

pub returns-in-Some : goal.returns-in-Some
returns-in-Some g c =
    let store = c.args.store.now in
    let tree = g.S.TreeStore.tree store in
    let found = subst (IsNameOf (g.S.TreeStore.names store) tree c.args.at.now) c.in-Some.is c.requires in
    c.step_by.ensures.next c.args.at.now found ∙ ap (next c.args.key.now) (sym (seen_here c.args.at.now tree (g.met.S.TreeStore.there store _ c.args.at.now found)))

pub returns-in-None : goal.returns-in-None
returns-in-None g c =
    let tree = g.S.TreeStore.tree c.args.store.now in
    let none = subst (IsNameOf (g.S.TreeStore.names c.args.store.now) tree c.args.at.now) c.in-None.is c.requires in
    c.new_link.ensures
    ∙ ap (λ o. next c.args.key.now (made_under o)) c.last.ensures.value
    ∙ ap (next c.args.key.now) (sym (seen_none c.args.at.now tree.now none))
