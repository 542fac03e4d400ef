use Rattle.jc_choice.proofs.LegalLemmas.{well_formed_with}
use Rattle.jc_choice.proofs.laws.schedules_are_well_formed.Goals as goal

pub returns : goal.returns
returns c = well_formed_with
