use Rattle.jc_effects.proofs.PlacesLemmas.{same_where_none}
use Rattle.jc_effects.proofs.laws.same_where_none_differs.Goals as goal

pub returns : goal.returns
returns c = λ a b x h P k f e. same_where_none P a b x k h f e
