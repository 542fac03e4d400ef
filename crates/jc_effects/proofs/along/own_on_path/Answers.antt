use Rattle.std.proofs.Common.{refl, ◌∙◌, ap, not, cond, [], ◌∷◌}
use Rattle.jc_rules.specs.declared.key.Key.{Key}
use Rattle.jc_meaning.specs.Seen.{seen, ids_at}
use Rattle.jc_effects.proofs.PartsOwnLemmas.{path_own}
use Rattle.jc_effects.proofs.along.own_on_path.Goals as goal

pub returns : goal.returns
returns g c at rest contexts path =
    let o = c.args.change.now.op.now in
    let old = (g.S.TreeStore.tree c.args.change.now.old.now).now in
    let new = (g.S.TreeStore.tree c.args.change.now.new.now).now in
    path_own o old new c.requires.changed at rest c.args.tagged.now c.ids_if-came.result.now c.ids_in-was.result.now c.ids_in-now.result.now path
    (c.ids_if-came.ensures ∙ ap (λ b. cond (not b) (o.id ∷ []) []) c.is_delete.ensures) (c.ids_in-was.ensures.ids at contexts.old ∙ ap (λ (j : Key). ids_at j (seen at old)) c.key.ensures) (c.ids_in-now.ensures.ids at contexts.new ∙ ap (λ (j : Key). ids_at j (seen at new)) c.key-2.ensures) c.ids_in-was.ensures.rising c.ids_in-now.ensures.rising
    _ _ _ _ _ _ _ c.in_ok-ids_without.ensures c.new.ensures.items (c.tag_made.ensures ∙ ap (λ b. cond b [] (c.args.tagged.now ∷ [])) (c.has_tag_in.ensures at contexts.old)) refl c.shown_between.ensures c.new-2.ensures.items c.new-3.ensures.items
