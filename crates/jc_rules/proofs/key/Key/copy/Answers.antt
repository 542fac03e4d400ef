use Rattle.std.proofs.Common.{rules}
use Rattle.jc_rules.proofs.key.Key.copy.Goals as goal

-- the head
pub returns-in-Head : goal.returns-in-Head
returns-in-Head c = search rules
