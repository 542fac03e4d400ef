use Rattle.std.proofs.Common.{sym, subst}
use Rattle.jc_tree.specs.Blocks.{AreFit}
use Rattle.jc_tree.proofs.BlocksLemmas.{lent_block, spots_kept, fit_kept}
use Rattle.jc_tree.proofs.blocks.Blocks.split.Goals as goal

pub invariant_of-self : goal.invariant_of-self
invariant_of-self c = spots_kept _ _ _ c.in_ok-place.place _ _ (lent_block _ _ _ _ c.self.view_is c.in_ok-spot.ensures.within c.index_mut.ensures.value) c.keep.ensures.numbers c.self.invariant

pub returns : goal.returns
returns c = record {
  fit = λ keys links presences fit.
      c.start.ensures.fit keys links presences
      (fit_kept keys links presences c.self.inside.blocks.items c.in_ok-spot.spot.block c.in_ok-place.place _ _
      (lent_block _ _ _ _ c.self.view_is c.in_ok-spot.ensures.within c.index_mut.ensures.value)
      c.keep.ensures.numbers c.keep.ensures.bits c.keep.ensures.least
      (subst (AreFit keys links presences) (sym c.self.view_is) fit));
}
