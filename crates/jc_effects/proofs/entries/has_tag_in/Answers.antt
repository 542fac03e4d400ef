use Rattle.std.proofs.Common.{sym, ◌∙◌, ap, subst}
use Rattle.jc_rules.specs.declared.key.Tagged.{Tagged}
use Rattle.jc_rules.specs.declared.key.Tagged.TheVariants.{MapT, ListT}
use Rattle.jc_meaning.specs.Seen.{seen, has_tag}
use Rattle.jc_effects.specs.Parts.{IsNameOf}
use Rattle.jc_effects.proofs.PartsReadLemmas.{is_new, tag_read, register_read, copied_some}
use Rattle.jc_effects.proofs.entries.has_tag_in.Goals as goal

pub returns-in_default : goal.returns-in_default
returns-in_default g c at named =
    let store = c.args.store.now in
    let tree = g.S.TreeStore.tree store in
    let none = subst (IsNameOf (g.S.TreeStore.names store) tree at) c.in_default.is named in
    sym ((is_new at tree.now none).tags c.args.tagged.now)

pub returns-in-MapT : goal.returns-in-MapT
returns-in-MapT g c at named =
    let store = c.args.store.now in
    let tree = g.S.TreeStore.tree store in
    let found = subst (IsNameOf (g.S.TreeStore.names store) tree at) c.in-Some.is named in
    tag_read at (MapT c.in-MapT.key) tree _ (g.met.S.TreeStore.there store _ at found) (c.is_some.ensures ∙ c.map_by.ensures.some at found) ∙ ap (λ (u : Tagged). has_tag u (seen at tree.now)) (sym c.in-MapT.is)

pub returns-in-ListT : goal.returns-in-ListT
returns-in-ListT g c at named =
    let store = c.args.store.now in
    let tree = g.S.TreeStore.tree store in
    let found = subst (IsNameOf (g.S.TreeStore.names store) tree at) c.in-Some.is named in
    tag_read at (ListT c.in-ListT.key) tree _ (g.met.S.TreeStore.there store _ at found) (c.is_some-in-ListT.ensures ∙ c.list_by.ensures.some at found) ∙ ap (λ (u : Tagged). has_tag u (seen at tree.now)) (sym c.in-ListT.is)

pub returns-in-RegT : goal.returns-in-RegT
returns-in-RegT g c at named =
    let store = c.args.store.now in
    let tree = g.S.TreeStore.tree store in
    let found = subst (IsNameOf (g.S.TreeStore.names store) tree at) c.in-Some.is named in
    register_read at c.in-RegT.key tree _ _ (g.met.S.TreeStore.there store _ at found) (c.register_by.ensures at found) (c.is_some-in-RegT.ensures ∙ copied_some _) ∙ ap (λ (u : Tagged). has_tag u (seen at tree.now)) (sym c.in-RegT.is)
