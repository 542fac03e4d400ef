use Rattle.std.proofs.Common.{refl}
use Rattle.jc_meaning.specs.Seen.{seen}
use Rattle.jc_effects.proofs.PartsOwnLemmas.{lost_own}
use Rattle.jc_effects.proofs.below.own_lost.Goals as goal

pub returns : goal.returns
returns g c at contexts losses =
    let old = seen at (g.S.TreeStore.tree c.args.change.now.old.now).now in
    let new = seen at (g.S.TreeStore.tree c.args.change.now.new.now).now in
    lost_own c.args.key.now old new c.ids_in-was.result.now c.ids_in-now.result.now c.pairs_in-had.result.now c.pairs_in-has.result.now losses (c.ids_in-was.ensures.ids at contexts.old) (c.ids_in-now.ensures.ids at contexts.new) (c.pairs_in-had.ensures.pairs at contexts.old) (c.pairs_in-has.ensures.pairs at contexts.new)
    _ _ _ _ _ _ _ c.new.ensures.items c.in_ok-ids_without.ensures refl refl c.shown_between.ensures c.in_ok-pairs_without.ensures c.new-2.ensures.items
