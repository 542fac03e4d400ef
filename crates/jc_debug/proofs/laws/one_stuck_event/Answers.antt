use Rattle.jc_debug.proofs.LawsLemmas.{one_cause, none_makes}
use Rattle.jc_debug.proofs.laws.one_stuck_event.Goals as goal

pub returns : goal.returns
returns c = λ S es n e f why k.
    (λ due l. one_cause S es n e f why due k l, λ rows m. none_makes S es n f e rows why m k)
