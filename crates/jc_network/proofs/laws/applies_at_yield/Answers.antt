use Rattle.jc_network.proofs.RunInvariantStartLemmas.{start_well, after_well}
use Rattle.jc_network.proofs.ChainedLemmas.{are_chained}
use Rattle.jc_network.proofs.ProgressLemmas.{applies}
use Rattle.jc_network.specs.Laws.{starts}
use Rattle.jc_network.proofs.laws.applies_at_yield.Goals as goal

pub returns : goal.returns
returns c = λ scripts network r p i d.
    let well = after_well (starts scripts) r.0 network (start_well scripts) r.1 in
    let chained = are_chained scripts r.0 network (start_well scripts) r.1 p d.at d.there in
    applies network well p d.at d.rest i d.op d.there chained d.yields d.received d.unapplied d.deps
