use Rattle.std.proofs.Common.{◌<◌, length, arith, refl}
use Rattle.jc_rules.specs.declared.id.Id.{Id}
use Rattle.jc_rules.proofs.ContextsAtLemmas.{there}
use Rattle.jc_tree.proofs.PlacesLemmas.{then_place}
use Rattle.jc_meaning.proofs.ChainEndsLemmas.{links_start, link_on, last_on}
use Rattle.jc_meaning.proofs.ordering.link.Goals as goal

pub loop-id-init : goal.loop-id-init
loop-id-init g c = record { linked = links_start c.args.at.now _ _ (there c.args.at.now _ c.requires.there) c.requires.new; last = refl; there = c.requires.there }

pub set_next-requires-in-loop-id : goal.set_next-requires-in-loop-id
set_next-requires-in-loop-id g c = then_place c.args.at.now _ (g.S.TreeStore.tree c.loop-id.store) (g.S.TreeStore.tree c.set_next.new.self) c.loop-id.invariant.there c.in_ok-set_next.ensures.ok.now

pub loop-id-preserved : goal.loop-id-preserved
loop-id-preserved g c =
    let within : c.loop-id.id-index < length c.args.ids.now = omega arith in
    let zero_id : Id = record { counter = 0; replica = 0 } in
    let middle = then_place c.args.at.now _ (g.S.TreeStore.tree c.loop-id.store) (g.S.TreeStore.tree c.set_next.new.self) c.loop-id.invariant.there c.in_ok-set_next.ensures.ok.now in
    record {
      linked = link_on c.args.ids.now c.loop-id.id-index zero_id within c.args.at.now c.loop-id.last _ _ _ _ _ _ c.requires.apart c.loop-id.invariant.last c.loop-id.invariant.linked (there c.args.at.now _ c.loop-id.invariant.there) c.in_ok-set_next.ensures.ok.now (there c.args.at.now _ middle) c.in_ok-set_next-2.ensures.ok.now;
      last = last_on c.args.ids.now c.loop-id.id-index zero_id within;
      there = then_place c.args.at.now _ (g.S.TreeStore.tree c.set_next.new.self) (g.S.TreeStore.tree c.set_next-in-loop-id.new.self) middle c.in_ok-set_next-2.ensures.ok.now;
    }
