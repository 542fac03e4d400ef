use Rattle.std.proofs.Common.{rules}
use Rattle.jc_rules.proofs.key.compare_ids.Goals as goal

-- by counter, then by replica
pub returns : goal.returns
returns c = search rules
