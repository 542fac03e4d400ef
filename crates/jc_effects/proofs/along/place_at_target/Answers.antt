use Rattle.std.proofs.Common.{subst}
use Rattle.std.proofs.lemmas.Result.{IfOk-weaker}
use Rattle.jc_rules.specs.declared.key.Key.{Key}
use Rattle.jc_rules.specs.declared.key.Tagged.TheVariants.{MapT, ListT}
use Rattle.jc_meaning.specs.Seen.{seen}
use Rattle.jc_effects.specs.Difference.{below, IsDifference}
use Rattle.jc_effects.specs.Parts.{differences_of}
use Rattle.jc_effects.proofs.PartsAlongLemmas.{changed_place}
use Rattle.jc_effects.proofs.along.place_at_target.Goals as goal

pub returns : goal.returns
returns g c =
    let o = c.args.change.now.op.now in
    let old = (g.S.TreeStore.tree c.args.change.now.old.now).now in
    let new = (g.S.TreeStore.tree c.args.change.now.new.now).now in
    let path = o.cursor.path in
    let k = c.args.key.now in
    let lists : IsDifference (below (ListT k) (seen path old)) (below (ListT k) (seen path new)) (differences_of c.in_ok-list.list) =
    subst (λ (j : Key). IsDifference (below (ListT j) (seen path old)) (below (ListT j) (seen path new)) (differences_of c.in_ok-list.list)) c.in_ok-copy.ensures c.in_ok-list.ensures in
    let maps : IsDifference (below (MapT k) (seen path old)) (below (MapT k) (seen path new)) (differences_of c.in_ok-map.map) =
    subst (λ (j : Key). IsDifference (below (MapT j) (seen path old)) (below (MapT j) (seen path new)) (differences_of c.in_ok-map.map)) c.in_ok-copy-2.ensures c.in_ok-map.ensures in
    IfOk-weaker c.with_place.result _ _
    (λ e f ks later among. changed_place o old new c.requires.changed path k c.in_ok-own.own (differences_of c.in_ok-map.map) (differences_of c.in_ok-list.list) (differences_of c.args.rest) (differences_of e) c.in_ok-own.ensures maps lists f ks later among)
    c.with_place.ensures
