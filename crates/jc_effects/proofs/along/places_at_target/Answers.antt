use Rattle.std.proofs.Common.{refl, sym, ◌∙◌}
use Rattle.std.proofs.lemmas.Result.{IfOk-weaker}
use Rattle.jc_effects.specs.Parts.{differences_of}
use Rattle.jc_effects.proofs.PartsAlongLemmas.{target_all}
use Rattle.jc_effects.proofs.PartsTargetLemmas.{other_target}
use Rattle.jc_effects.proofs.along.places_at_target.Goals as goal

pub returns-else-is_insert : goal.returns-else-is_insert
returns-else-is_insert g c =
    let o = c.args.change.now.op.now in
    let old = (g.S.TreeStore.tree c.args.change.now.old.now).now in
    let new = (g.S.TreeStore.tree c.args.change.now.new.now).now in
    let no_insert = sym c.is_insert.ensures ∙ c.if-is_insert.false in
    IfOk-weaker c.place_at_target.result _ _
    (λ e f. target_all o old new c.requires.changed o.cursor.path o.cursor.last (differences_of e) refl (other_target o no_insert) no_insert f)
    c.place_at_target.ensures
