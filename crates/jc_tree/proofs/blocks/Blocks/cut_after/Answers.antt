use Rattle.std.proofs.Common.{suc, Some, sym, subst, ◌∙◌, ap}
use Rattle.jc_tree.specs.Blocks.{AreFit}
use Rattle.jc_tree.proofs.BlocksLemmas.{only_place_in, no_place, lent_block, spots_kept, fit_relinked, fit_cut}
use Rattle.jc_tree.proofs.blocks.Blocks.cut_after.Goals as goal

pub returns-in_default : goal.returns-in_default
returns-in_default c = record {
  fit = λ keys old new presences k distinct numbered differ fit.
      fit_relinked keys presences k old new differ c.args.self.now
      (λ b s n h more key. no_place _ c.args.self.now c.args.number c.in_default.is c.spot.ensures.only b s (h ∙ ap Some (distinct k n c.args.number key numbered))) fit;
}

pub invariant_of-self : goal.invariant_of-self
invariant_of-self c = spots_kept _ _ _ (suc c.in-Some.spot.index) _ _ (lent_block _ _ _ _ c.self.view_is c.in-Some.ensures.within c.index_mut.ensures.value) c.keep_through.ensures.numbers c.self.invariant

pub returns : goal.returns
returns c = record {
  fit = λ keys old new presences k distinct numbered differ fit.
      fit_cut keys presences k old new differ c.self.inside.blocks.items c.in-Some.spot.block c.in-Some.spot.index c.args.number _ _ distinct numbered
      (lent_block _ _ _ _ c.self.view_is c.in-Some.ensures.within c.index_mut.ensures.value)
      (only_place_in _ _ _ _ _ c.self.view_is c.in-Some.is c.spot.ensures.only)
      c.keep_through.ensures.numbers c.keep_through.ensures.bits c.keep_through.ensures.least
      (subst (AreFit keys old presences) (sym c.self.view_is) fit);
}
