use Rattle.std.proofs.Common.{Some, sym, subst, ◌∙◌, ap}
use Rattle.jc_tree.specs.Blocks.{AreFit, IsNumberIn}
use Rattle.jc_tree.proofs.BlocksLemmas.{only_place_in, no_place, lent_block, lent_number, spots_same, fit_apart, fit_marked}
use Rattle.jc_tree.proofs.blocks.Blocks.mark.Goals as goal

pub returns-in_default : goal.returns-in_default
returns-in_default c = record {
  fit = λ keys links old new k distinct numbered differ bit fit.
      fit_apart keys links k old new differ c.args.self.now (subst (λ o. IsNumberIn o k keys c.args.self.now) c.in_default.is numbered) fit;
}

pub returns-in_default-spot : goal.returns-in_default-spot
returns-in_default-spot c = record {
  fit = λ keys links old new k distinct numbered differ bit fit.
      fit_apart keys links k old new differ c.args.self.now
      (λ b s n h key. no_place _ c.args.self.now c.in-Some.number c.in_default-spot.is c.spot.ensures.only b s
      (h ∙ ap Some (distinct k n c.in-Some.number key (subst (λ o. IsNumberIn o k keys c.args.self.now) c.in-Some.is numbered)))) fit;
}

pub invariant_of-self : goal.invariant_of-self
invariant_of-self c = spots_same _ _ _ _ _ (lent_block _ _ _ _ c.self.view_is c.in-Some-spot.ensures.within c.index_mut.ensures.value) c.mark.ensures.numbers c.self.invariant

pub returns : goal.returns
returns c = record {
  fit = λ keys links old new k distinct numbered differ bit fit.
      let there = lent_block _ _ _ _ c.self.view_is c.in-Some-spot.ensures.within c.index_mut.ensures.value in
      fit_marked keys links k old new differ c.self.inside.blocks.items c.in-Some-spot.spot.block c.in-Some-spot.spot.index c.in-Some.number c.args.is _ _ distinct
      (subst (λ o. IsNumberIn o k keys c.args.self.now) c.in-Some.is numbered) bit there
      (lent_number _ _ _ _ _ _ c.self.view_is there c.in-Some-spot.ensures.some)
      (only_place_in _ _ _ _ _ c.self.view_is c.in-Some-spot.is c.spot.ensures.only)
      c.mark.ensures.numbers c.mark.ensures.same c.mark.ensures.others c.mark.ensures.least
      (subst (AreFit keys links old) (sym c.self.view_is) fit);
}
