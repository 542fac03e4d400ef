use Rattle.jc_network.proofs.OfferedLemmas.{offered_handed}
use Rattle.jc_network.proofs.laws.offered_is_handed.Goals as goal

pub returns : goal.returns
returns c = λ scripts network r short set kept seen q K e. offered_handed scripts network r short set kept seen q K e
