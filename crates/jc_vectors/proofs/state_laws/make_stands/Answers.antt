use Rattle.jc_vectors.proofs.MakeStandsLemmas.{make_stands}
use Rattle.jc_vectors.proofs.state_laws.make_stands.Goals as goal

pub returns : goal.returns
returns c = make_stands
