use Rattle.jc_vectors.proofs.StateShrinksLemmas.{state_shrinks}
use Rattle.jc_vectors.proofs.state_laws.state_shrinks.Goals as goal

pub returns : goal.returns
returns c = state_shrinks
