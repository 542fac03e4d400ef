use Rattle.jc_network.proofs.RunInvariantStartLemmas.{start_well, after_well, sound, rooted, are_applied}
use Rattle.jc_network.specs.Laws.{starts}
use Rattle.jc_network.proofs.laws.held_is_sound.Goals as goal

pub returns : goal.returns
returns c = λ scripts network r.
    let well = after_well (starts scripts) r.0 network (start_well scripts) r.1 in
    (sound network well, rooted network well, are_applied network well)
