use Rattle.std.proofs.Common.{rules}
use Rattle.jc_rules.proofs.key.compare_keys.Goals as goal

-- the derived order of keys
pub returns : goal.returns
returns c = search rules
