use Rattle.jc_vectors.proofs.StateShrinksLemmas.{new_is_unknown}
use Rattle.jc_vectors.proofs.state_laws.new_is_unknown.Goals as goal

pub returns : goal.returns
returns c = new_is_unknown
