use Rattle.jc_network.proofs.RefinesLemmas.{start_seen}
use Rattle.jc_network.proofs.laws.start_is_seen.Goals as goal

pub returns : goal.returns
returns c = λ scripts. start_seen scripts
