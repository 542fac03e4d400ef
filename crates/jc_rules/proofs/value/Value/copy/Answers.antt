use Rattle.std.proofs.Common.{rules}
use Rattle.jc_rules.proofs.value.Value.copy.Goals as goal

-- null
pub returns-in-Null : goal.returns-in-Null
returns-in-Null c = search rules
