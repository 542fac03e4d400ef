use Rattle.jc_network.proofs.RunInvariantStartLemmas.{start_well, after_well}
use Rattle.jc_network.proofs.FitsLemmas.{never_stuck}
use Rattle.jc_network.specs.Laws.{starts}
use Rattle.jc_network.proofs.laws.never_stuck_at_yield.Goals as goal

pub returns : goal.returns
returns c = λ scripts network r p i d why stuck.
    let well = after_well (starts scripts) r.0 network (start_well scripts) r.1 in
    never_stuck network well p d.at d.rest i d.op d.there d.yields d.received d.unapplied d.deps why stuck
