use Rattle.jc_network.proofs.RunInvariantStartLemmas.{start_well, after_well}
use Rattle.jc_network.specs.Laws.{starts}
use Rattle.jc_network.proofs.laws.offered_is_own.Goals as goal

pub returns : goal.returns
returns c = λ scripts network r p A o there k.
    let well = after_well (starts scripts) r.0 network (start_well scripts) r.1 in
    (well.sets.sent p A o there k).0
