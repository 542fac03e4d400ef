-- About specs/Laws: dependencies that represent others, and those that agree with others.
use Rattle.std.proofs.Common.{◌≡◌, true}
use Rattle.jc_rules.specs.Derivation.{Operate, Clear, ClearElem, ToContext, Cleared}
use Rattle.jc_rules.specs.Ids.{has_id}
use Rattle.jc_vectors.specs.Laws.{OperateAlike, ClearAlike, ClearElemAlike, OperateStands, ClearStands, ClearElemStands}
use Rattle.jc_vectors.specs.OperationIds.{ids_of_ops}
use Rattle.jc_vectors.proofs.OperationIdsLemmas.{operation_of, stands_agree}
use Rattle.jc_vectors.proofs.SwappedDepsLemmas.{derives-swap}

pub operate_alike : OperateAlike
operate_alike ids deps c d o t u known own agree h = derives-swap (λ i. has_id i ids ≡ true) deps (Operate c o) (ToContext d) t u (known, own, agree) h

pub clear_alike : ClearAlike
clear_alike ids deps others c d k s t u known agree h =
    let both = derives-swap (λ i. has_id i ids ≡ true) others (Clear c deps k) (Cleared d s) t u (known, agree) h in
    (both.0, both.1.0)

pub clear_elem_alike : ClearElemAlike
clear_elem_alike ids deps others c d k s t u known agree h =
    let both = derives-swap (λ i. has_id i ids ≡ true) others (ClearElem c deps k) (Cleared d s) t u (known, agree) h in
    (both.0, both.1.0)

pub operate_stands : OperateStands
operate_stands set deps c d o e t u stands own known h = operate_alike (ids_of_ops set) deps c d o t u known (operation_of o.id set e own) (stands_agree set deps o.deps stands) h

pub clear_stands : ClearStands
clear_stands set deps counters c d k s t u stands known h = clear_alike (ids_of_ops set) counters deps c d k s t u known (stands_agree set deps counters stands) h

pub clear_elem_stands : ClearElemStands
clear_elem_stands set deps counters c d k s t u stands known h = clear_elem_alike (ids_of_ops set) counters deps c d k s t u known (stands_agree set deps counters stands) h
