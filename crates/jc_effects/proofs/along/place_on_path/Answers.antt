use Rattle.std.proofs.Common.{◌≡◌, ◌++◌, ◌∷◌, ◌∙◌, ap, subst}
use Rattle.std.proofs.lemmas.Result.{IfOk-weaker}
use Rattle.jc_rules.specs.declared.key.Key.{Key}
use Rattle.jc_rules.specs.declared.key.Tagged.{Tagged}
use Rattle.jc_rules.specs.Context.{key_of_tagged}
use Rattle.jc_meaning.specs.Seen.{seen}
use Rattle.jc_effects.specs.Difference.{own_difference, below, IsDifference}
use Rattle.jc_effects.specs.Parts.{own_seen, differences_of}
use Rattle.jc_effects.proofs.PartsAlongLemmas.{map_on_path, list_on_path, register_on_path}
use Rattle.jc_effects.proofs.along.place_on_path.Goals as goal

pub returns-in-MapT : goal.returns-in-MapT
returns-in-MapT g c at rest contexts path inside =
    let o = c.args.change.now.op.now in
    let old = (g.S.TreeStore.tree c.args.change.now.old.now).now in
    let new = (g.S.TreeStore.tree c.args.change.now.new.now).now in
    let k = c.in-MapT.key in
    let own : own_seen k c.in_ok-own.own ≡ own_difference k (seen at old) (seen at new) =
    subst (λ (j : Key). own_seen j c.in_ok-own.own ≡ own_difference j (seen at old) (seen at new)) (ap key_of_tagged c.in-MapT.is) (c.in_ok-own.ensures at rest contexts path) in
    let along = path ∙ ap (λ (u : Tagged). at ++ u ∷ rest) c.in-MapT.is in
    let within = subst (λ (u : Tagged). IsDifference (below u (seen at old)) (below u (seen at new)) (differences_of c.args.inside)) c.in-MapT.is inside in
    IfOk-weaker c.with_place.result _ _
    (λ e f. map_on_path o old new c.requires.changed at rest c.in_ok-own.own (differences_of c.args.inside) (differences_of e) k along own within f)
    c.with_place.ensures

pub returns-in-ListT : goal.returns-in-ListT
returns-in-ListT g c at rest contexts path inside =
    let o = c.args.change.now.op.now in
    let old = (g.S.TreeStore.tree c.args.change.now.old.now).now in
    let new = (g.S.TreeStore.tree c.args.change.now.new.now).now in
    let k = c.in-ListT.key in
    let own : own_seen k c.in_ok-own.own ≡ own_difference k (seen at old) (seen at new) =
    subst (λ (j : Key). own_seen j c.in_ok-own.own ≡ own_difference j (seen at old) (seen at new)) (ap key_of_tagged c.in-ListT.is) (c.in_ok-own.ensures at rest contexts path) in
    let along = path ∙ ap (λ (u : Tagged). at ++ u ∷ rest) c.in-ListT.is in
    let within = subst (λ (u : Tagged). IsDifference (below u (seen at old)) (below u (seen at new)) (differences_of c.args.inside)) c.in-ListT.is inside in
    IfOk-weaker c.with_place-in-ListT.result _ _
    (λ e f. list_on_path o old new c.requires.changed at rest c.in_ok-own.own (differences_of c.args.inside) (differences_of e) k along own within f)
    c.with_place-in-ListT.ensures

pub returns-in-RegT : goal.returns-in-RegT
returns-in-RegT g c at rest contexts path inside =
    let o = c.args.change.now.op.now in
    let old = (g.S.TreeStore.tree c.args.change.now.old.now).now in
    let new = (g.S.TreeStore.tree c.args.change.now.new.now).now in
    let k = c.in-RegT.key in
    let own : own_seen k c.in_ok-own.own ≡ own_difference k (seen at old) (seen at new) =
    subst (λ (j : Key). own_seen j c.in_ok-own.own ≡ own_difference j (seen at old) (seen at new)) (ap key_of_tagged c.in-RegT.is) (c.in_ok-own.ensures at rest contexts path) in
    let along = path ∙ ap (λ (u : Tagged). at ++ u ∷ rest) c.in-RegT.is in
    IfOk-weaker c.with_place-in-RegT.result _ _
    (λ e f. register_on_path o old new c.requires.changed at rest c.in_ok-own.own (differences_of c.args.inside) (differences_of e) k along own f)
    c.with_place-in-RegT.ensures
