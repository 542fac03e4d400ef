use Rattle.jc_vectors.proofs.LawsLemmas.{clear_elem_alike}
use Rattle.jc_vectors.proofs.laws.clear_elem_alike.Goals as goal

pub returns : goal.returns
returns c = clear_elem_alike
