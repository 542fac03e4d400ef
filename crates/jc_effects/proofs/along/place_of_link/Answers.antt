use Rattle.std.proofs.Common.{refl}
use Rattle.std.proofs.lemmas.Result.{IfOk-weaker}
use Rattle.jc_effects.specs.Parts.{differences_of}
use Rattle.jc_effects.proofs.PartsAlongLemmas.{link_place}
use Rattle.jc_effects.proofs.along.place_of_link.Goals as goal

pub returns : goal.returns
returns g c =
    let o = c.args.change.now.op.now in
    let old = (g.S.TreeStore.tree c.args.change.now.old.now).now in
    let new = (g.S.TreeStore.tree c.args.change.now.new.now).now in
    IfOk-weaker c.with_place.result _ _
    (λ e f ks later among. link_place o old new c.requires.changed o.cursor.path c.args.key.now c.own_linked-own.result (differences_of c.args.rest) (differences_of e) refl c.requires.other c.own_linked-own.ensures f ks later among)
    c.with_place.ensures
