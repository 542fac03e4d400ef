use Rattle.jc_effects.proofs.LawsEventsLemmas.{one_applied}
use Rattle.jc_effects.proofs.laws.events_apply_one.Goals as goal

pub returns : goal.returns
returns c = λ scripts network new event rows r s. one_applied scripts network new event rows r s
