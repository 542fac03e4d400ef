use Rattle.jc_apply.proofs.ApplyRulesLemmas.{empties_map, empties_list}
use Rattle.jc_apply.proofs.assigning.empty_rule.Goals as goal

pub returns-in-MapT : goal.returns-in-MapT
returns-in-MapT c = empties_map _ _ c.in-MapT.is

pub returns-in-ListT : goal.returns-in-ListT
returns-in-ListT c = empties_list _ _ c.in-ListT.is
