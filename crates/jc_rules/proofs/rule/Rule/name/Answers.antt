use Rattle.std.proofs.Common.{rules}
use Rattle.jc_rules.proofs.rule.Rule.name.Goals as goal

-- the name of one rule
pub returns-in-Val2 : goal.returns-in-Val2
returns-in-Val2 c = search rules
