use Rattle.std.proofs.Common.{◌+◌, true, take, refl, ◌∙◌, ap, is_some}
use Rattle.jc_tree.specs.declared.store.Place.{Place}
use Rattle.jc_rules.specs.Paths.{IsPath}
use Rattle.jc_apply.specs.Fits.{Fits}
use Rattle.jc_apply.proofs.ReachLemmas.{key_on, walked_there, walked_new, named_there, named_so, named_whole, named_none, insert_there, insert_new, other_fits}
use Rattle.jc_apply.proofs.FitsRefusedLemmas.{told}
use Rattle.jc_apply.proofs.fitting.fits.Goals as goal
use Rattle.jc_apply.proofs.fitting.fits.Goals.{in-Some, in_default-place}

pub loop-depth-preserved : goal.loop-depth-preserved
loop-depth-preserved g c =
    let key = key_on c.as_slice-path.result.now c.args.cursor.now.path c.loop-depth.depth c.index-path-depth.result c.as_slice-path.ensures.keys c.as_slice-path.ensures.path c.loop-depth-test.true c.index-path-depth.is in
    elim c.match-place.branch [
      | in-Some w ↦ record {
        walked = walked_there (g.S.TreeStore.tree c.args.store.now).now c.as_slice-path.result.now c.loop-depth.depth c.index-path-depth.result (is_some c.loop-depth.place) (is_some c.match-place.place) c.loop-depth-test.true c.index-path-depth.is key c.loop-depth.invariant.walked (ap is_some w.in-Some.is) (ap is_some w.place-is ∙ w.below-place.ensures.some (take c.loop-depth.depth c.as_slice-path.result.now) (named_so Place (λ p. g.S.TreeStore.names c.args.store.now p (take c.loop-depth.depth c.as_slice-path.result.now)) c.loop-depth.place w.in-Some.parent w.in-Some.is c.loop-depth.invariant.named));
        named = named_there Place (λ p at. g.S.TreeStore.names c.args.store.now p at) c.as_slice-path.result.now c.loop-depth.depth c.index-path-depth.result w.below-place.result c.match-place.place c.loop-depth-test.true c.index-path-depth.is w.place-is (w.below-place.ensures.named (take c.loop-depth.depth c.as_slice-path.result.now) (named_so Place (λ p. g.S.TreeStore.names c.args.store.now p (take c.loop-depth.depth c.as_slice-path.result.now)) c.loop-depth.place w.in-Some.parent w.in-Some.is c.loop-depth.invariant.named));
      }
      | in_default-place w ↦ record {
        walked = walked_new (g.S.TreeStore.tree c.args.store.now).now c.as_slice-path.result.now c.loop-depth.depth c.index-path-depth.result (is_some c.loop-depth.place) (is_some c.match-place.place) c.loop-depth-test.true c.index-path-depth.is key c.loop-depth.invariant.walked (ap is_some w.in_default-place.is) (ap is_some (w.place-is ∙ w.in_default-place.is));
        named = named_none Place (λ p. g.S.TreeStore.names c.args.store.now p (take (c.loop-depth.depth + 1) c.as_slice-path.result.now)) c.match-place.place (w.place-is ∙ w.in_default-place.is);
      }
    ]

pub returns-in-Some-place : goal.returns-in-Some-place
returns-in-Some-place g c =
    let t = told _ c.args.cursor.now c.args.mutation.now c.is_some.result c.as_slice-path.ensures.path (insert_there _ c.as_slice-path.result.now c.args.cursor.now.path c.loop-depth.depth (is_some c.loop-depth.place) c.args.cursor.now.last c.args.mutation.now _ c.step_by-step.result.next c.is_some.result c.as_slice-path.ensures.keys c.loop-depth-test.false c.loop-depth.invariant.walked (ap is_some c.in-Some-place.is) c.in-Insert.is (c.step_by-step.ensures.next c.as_slice-path.result.now (named_whole Place (λ p at. g.S.TreeStore.names c.args.store.now p at) c.as_slice-path.result.now c.loop-depth.depth c.loop-depth.place c.in-Some-place.place c.loop-depth-test.false c.in-Some-place.is c.loop-depth.invariant.named)) c.is_some.ensures) in
    record { fits = t.fits; refused = t.refused; not_refused = t.not_refused }

pub returns-in-None : goal.returns-in-None
returns-in-None g c =
    let t = told _ c.args.cursor.now c.args.mutation.now c.is_new_head.result c.as_slice-path.ensures.path (insert_new _ c.as_slice-path.result.now c.args.cursor.now.path c.loop-depth.depth (is_some c.loop-depth.place) c.args.cursor.now.last c.args.mutation.now _ _ c.is_new_head.result c.as_slice-path.ensures.keys c.loop-depth-test.false c.loop-depth.auto.depth-end c.loop-depth.invariant.walked (ap is_some c.in-None.is) c.in-Insert.is c.last.ensures.value c.is_new_head.ensures) in
    record { fits = t.fits; refused = t.refused; not_refused = t.not_refused }

pub returns-in_default : goal.returns-in_default
returns-in_default g c =
    let path = c.args.cursor.now.path in
    let fit : IsPath path → Fits (g.S.TreeStore.tree c.args.store.now).now path c.args.cursor.now.last c.args.mutation.now = λ p. other_fits path _ c.args.cursor.now.last c.args.mutation.now p.contexts c.in_default.not-Insert in
    let t = told _ c.args.cursor.now c.args.mutation.now true c.as_slice-path.ensures.path (λ e. fit c.as_slice-path.ensures.path, λ f. refl) in
    record { fits = t.fits; refused = t.refused; not_refused = t.not_refused }
