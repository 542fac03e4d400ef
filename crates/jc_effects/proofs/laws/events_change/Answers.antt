use Rattle.jc_effects.proofs.LawsEventsLemmas.{changes}
use Rattle.jc_effects.proofs.laws.events_change.Goals as goal

pub returns : goal.returns
returns c = λ scripts network new event rows r s. changes scripts network new event rows r s
