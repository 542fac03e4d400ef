use Rattle.std.proofs.Common.{sym, subst}
use Rattle.jc_tree.specs.Blocks.{AreFit}
use Rattle.jc_tree.proofs.BlocksLemmas.{spots_more}
use Rattle.jc_tree.proofs.blocks.Blocks.make_room.Goals as goal

pub invariant_of-self : goal.invariant_of-self
invariant_of-self c = spots_more _ _ _ c.reach.ensures c.self.invariant

pub invariant_of-self-2 : goal.invariant_of-self-2
invariant_of-self-2 c = c.end_empty.ensures.spots _ (spots_more _ _ _ c.reach.ensures c.self.invariant)

pub returns : goal.returns
returns c = record {
  fit = λ keys links presences fit. c.end_empty.ensures.fit keys links presences (subst (AreFit keys links presences) (sym c.self.view_is) fit);
}
