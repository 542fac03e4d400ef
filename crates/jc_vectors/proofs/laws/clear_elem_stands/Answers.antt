use Rattle.jc_vectors.proofs.LawsLemmas.{clear_elem_stands}
use Rattle.jc_vectors.proofs.laws.clear_elem_stands.Goals as goal

pub returns : goal.returns
returns c = clear_elem_stands
