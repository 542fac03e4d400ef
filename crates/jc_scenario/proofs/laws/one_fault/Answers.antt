use Rattle.jc_scenario.proofs.LawsLemmas.{one_fault}
use Rattle.jc_scenario.proofs.laws.one_fault.Goals as goal

pub returns : goal.returns
returns c = one_fault c.one_list_of_tokens.ensures c.one_fault.ensures c.tokens_or_fault.ensures c.one_named_tree.ensures c.named_tree_or_fault.ensures c.one_tree_fault.ensures
