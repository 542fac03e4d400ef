use Rattle.std.proofs.Common.{sym, subst}
use Rattle.jc_tree.specs.Blocks.{AreFit, AreSpots}
use Rattle.jc_tree.proofs.BlocksLemmas.{spots_before, fit_more}
use Rattle.jc_tree.proofs.blocks.end_empty.Goals as goal

pub returns-clause-fit : goal.returns-clause-fit
returns-clause-fit c = λ keys links presences fit. subst (AreFit keys links presences) (sym c.in_ok-push.ensures.items) (fit_more keys links presences _ _ c.new.ensures fit)

pub returns-clause-spots : goal.returns-clause-spots
returns-clause-spots c = λ spots a. subst (AreSpots spots) (sym c.in_ok-push.ensures.items) (spots_before spots _ _ c.new.ensures a)
