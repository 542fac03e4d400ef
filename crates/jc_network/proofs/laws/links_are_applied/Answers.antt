use Rattle.jc_network.proofs.RunInvariantStartLemmas.{start_well, after_well, at_member}
use Rattle.jc_network.proofs.ChainedLemmas.{unapplied_unlinked, are_chained}
use Rattle.jc_network.specs.Laws.{starts}
use Rattle.jc_network.proofs.laws.links_are_applied.Goals as goal

pub returns : goal.returns
returns c = λ scripts network r A k.
    let well = after_well (starts scripts) r.0 network (start_well scripts) r.1 in
    let m = at_member network A k in
    (are_chained scripts r.0 network (start_well scripts) r.1 m.0 A m.1, λ i h. unapplied_unlinked network well m.0 A m.1 i h)
