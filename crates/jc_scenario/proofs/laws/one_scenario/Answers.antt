use Rattle.jc_scenario.proofs.LawsLemmas.{one_scenario}
use Rattle.jc_scenario.proofs.laws.one_scenario.Goals as goal

pub returns : goal.returns
returns c = one_scenario c.one_list_of_tokens.ensures c.one_named_tree.ensures
