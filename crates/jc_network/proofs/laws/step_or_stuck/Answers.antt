use Rattle.jc_rules.proofs.RefusedLemmas.{stuck_has_none}
use Rattle.jc_network.proofs.RunInvariantStartLemmas.{start_well, after_well}
use Rattle.jc_network.proofs.ChainedLemmas.{are_chained}
use Rattle.jc_network.proofs.EventsDecideLemmas.{step_decided}
use Rattle.jc_network.specs.Laws.{starts}
use Rattle.jc_network.proofs.laws.step_or_stuck.Goals as goal

pub returns : goal.returns
returns c = λ scripts network r event.
    let well = after_well (starts scripts) r.0 network (start_well scripts) r.1 in
    let chained = are_chained scripts r.0 network (start_well scripts) r.1 in
    (step_decided network well chained event, λ new rows why step stuck. stuck_has_none network new event why rows stuck step)
