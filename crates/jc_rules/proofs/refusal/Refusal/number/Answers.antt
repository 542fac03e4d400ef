use Rattle.std.proofs.Common.{rules}
use Rattle.jc_rules.proofs.refusal.Refusal.number.Goals as goal

-- the number of one refusal
pub returns-in-UnboundVariable : goal.returns-in-UnboundVariable
returns-in-UnboundVariable c = search rules
