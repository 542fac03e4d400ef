use Rattle.jc_network.proofs.RunInvariantStartLemmas.{start_well, after_well}
use Rattle.jc_network.proofs.ChainedLemmas.{are_chained}
use Rattle.jc_network.proofs.EventsDecideLemmas.{step_decided}
use Rattle.jc_network.proofs.EnabledLemmas.{decided_in, enabled_are_once, enabled_is_step}
use Rattle.jc_network.proofs.EnabledOrderLemmas.{ordered}
use Rattle.jc_network.specs.Laws.{starts}
use Rattle.jc_network.proofs.laws.enabled_have_steps.Goals as goal

pub returns : goal.returns
returns c = λ scripts network r listed enabled.
    let well = after_well (starts scripts) r.0 network.states (start_well scripts) r.1 in
    let chained = are_chained scripts r.0 network.states (start_well scripts) r.1 in
    let decided = decided_in network (step_decided network.states well chained) in
    (enabled_are_once network decided listed enabled (λ p A there. (ordered scripts network.states r p A there).offered) (λ p A there. (ordered scripts network.states r p A there).received), enabled_is_step network decided listed enabled)
