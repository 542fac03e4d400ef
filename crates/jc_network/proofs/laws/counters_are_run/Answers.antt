use Rattle.jc_network.proofs.CountersLemmas.{run_counted}
use Rattle.jc_network.proofs.laws.counters_are_run.Goals as goal

pub returns : goal.returns
returns c = run_counted
