use Rattle.jc_choice.proofs.ChosenLemmas.{none_chosen}
use Rattle.jc_choice.proofs.laws.no_choice_is_the_end.Goals as goal

pub returns : goal.returns
returns c = none_chosen
