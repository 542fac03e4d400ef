use Rattle.jc_effects.proofs.LawsEventsLemmas.{unchanged}
use Rattle.jc_effects.proofs.laws.others_change_nothing.Goals as goal

pub returns : goal.returns
returns c = λ scripts network new event rows r s. unchanged scripts network new event rows r s
