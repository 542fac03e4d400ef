use Rattle.jc_choice.proofs.ChosenLemmas.{choice_is}
use Rattle.jc_choice.proofs.laws.choices_are_own.Goals as goal

pub returns : goal.returns
returns c = choice_is
