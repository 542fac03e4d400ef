use Rattle.jc_scenario.proofs.FaultsDecideLemmas.{scenario_else_fault}
use Rattle.jc_scenario.proofs.laws.scenario_else_fault.Goals as goal

pub returns : goal.returns
returns c = scenario_else_fault c.tokens_else_fault.ensures c.named_tree_else_fault.ensures c.legal_scenarios.ensures
