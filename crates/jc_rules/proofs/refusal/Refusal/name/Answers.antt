use Rattle.std.proofs.Common.{rules}
use Rattle.jc_rules.proofs.refusal.Refusal.name.Goals as goal

-- the name of one refusal
pub returns-in-NoMap : goal.returns-in-NoMap
returns-in-NoMap c = search rules
