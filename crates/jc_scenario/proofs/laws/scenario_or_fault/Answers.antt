use Rattle.jc_scenario.proofs.LawsLemmas.{scenario_or_fault}
use Rattle.jc_scenario.proofs.laws.scenario_or_fault.Goals as goal

pub returns : goal.returns
returns c = scenario_or_fault c.one_list_of_tokens.ensures c.tokens_or_fault.ensures c.one_named_tree.ensures c.named_tree_or_fault.ensures
