use Rattle.std.proofs.Common.{rules}
use Rattle.jc_rules.proofs.trace.Trace.push.Goals as goal

-- the rule at the depth
pub returns-clause-ok : goal.returns-clause-ok
returns-clause-ok c = search rules
