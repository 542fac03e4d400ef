use Rattle.jc_network.proofs.RunInvariantStartLemmas.{start_well, after_well}
use Rattle.jc_network.proofs.RefinesLemmas.{steps_on}
use Rattle.jc_network.specs.Laws.{starts}
use Rattle.jc_network.proofs.laws.event_steps.Goals as goal

pub returns : goal.returns
returns c = λ scripts network r set kept seen event read old new rows asked occurs.
    let well = after_well (starts scripts) r.0 network (start_well scripts) r.1 in
    steps_on set network kept well.sets seen event read old new rows asked occurs
