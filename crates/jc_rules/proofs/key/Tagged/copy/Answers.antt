use Rattle.std.proofs.Common.{rules}
use Rattle.jc_rules.proofs.key.Tagged.copy.Goals as goal

-- a list stays a list
pub returns-in_ok-copy-in-ListT : goal.returns-in_ok-copy-in-ListT
returns-in_ok-copy-in-ListT c = search rules
