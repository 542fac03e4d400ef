use Rattle.jc_network.proofs.GivenLemmas.{one_given_stuck}
use Rattle.jc_network.proofs.laws.one_given_stuck.Goals as goal

pub returns : goal.returns
returns c = one_given_stuck
