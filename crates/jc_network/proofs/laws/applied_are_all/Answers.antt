use Rattle.jc_network.proofs.RunInvariantStartLemmas.{start_well, after_well, at_member}
use Rattle.jc_network.proofs.AppliedLemmas.{applied_is, applied_has, applied_order}
use Rattle.jc_network.proofs.EnabledOrderLemmas.{ordered}
use Rattle.jc_network.specs.Laws.{starts}
use Rattle.jc_network.proofs.laws.applied_are_all.Goals as goal

pub returns : goal.returns
returns c = λ scripts network r A k.
    let well = after_well (starts scripts) r.0 network (start_well scripts) r.1 in
    let m = at_member network A k in
    (applied_order network well m.0 A m.1 (ordered scripts network r m.0 A m.1), applied_is network well m.0 A m.1, applied_has network well m.0 A m.1)
