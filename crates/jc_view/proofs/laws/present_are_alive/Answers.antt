use Rattle.jc_view.proofs.AliveLemmas.{present_alive}
use Rattle.jc_view.proofs.laws.present_are_alive.Goals as goal

pub returns : goal.returns
returns c = λ scripts network r A k at t l i h. present_alive scripts network r A k at t l i h
