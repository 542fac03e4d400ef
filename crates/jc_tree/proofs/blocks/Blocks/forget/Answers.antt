use Rattle.std.proofs.Common.{List, sym, subst, ◌∙◌, ap}
use Rattle.jc_tree.specs.Blocks.{Members, AreFit, member}
use Rattle.jc_tree.proofs.BlocksLemmas.{only_place_in, lent_block, spots_kept, fit_kept, none_behind, fewer_kept}
use Rattle.jc_tree.proofs.blocks.Blocks.forget.Goals as goal

pub invariant_of-self : goal.invariant_of-self
invariant_of-self c = spots_kept _ _ _ _ _ _ (lent_block _ _ _ _ c.self.view_is c.in-Some.ensures.within c.index_mut.ensures.value) c.keep.ensures.numbers c.self.invariant

pub returns-clause-fit : goal.returns-clause-fit
returns-clause-fit c = λ keys links presences fit.
    fit_kept keys links presences c.self.inside.blocks.items c.in-Some.spot.block c.in-Some.spot.index _ _
    (lent_block _ _ _ _ c.self.view_is c.in-Some.ensures.within c.index_mut.ensures.value)
    c.keep.ensures.numbers c.keep.ensures.bits c.keep.ensures.least
    (subst (AreFit keys links presences) (sym c.self.view_is) fit)

pub returns-clause-gone : goal.returns-clause-gone
returns-clause-gone c = none_behind c.self.inside.blocks.items c.in-Some.spot.block c.in-Some.spot.index c.args.number _ _ (lent_block _ _ _ _ c.self.view_is c.in-Some.ensures.within c.index_mut.ensures.value) c.keep.ensures.numbers (only_place_in _ _ _ _ _ c.self.view_is c.in-Some.is c.spot.ensures.only)

pub returns-clause-fewer : goal.returns-clause-fewer
returns-clause-fewer c = λ b s n h. ap (λ (l : List Members). member l b s) (sym c.self.view_is) ∙ fewer_kept c.self.inside.blocks.items c.in-Some.spot.block c.in-Some.spot.index _ _ (lent_block _ _ _ _ c.self.view_is c.in-Some.ensures.within c.index_mut.ensures.value) c.keep.ensures.numbers b s n h
