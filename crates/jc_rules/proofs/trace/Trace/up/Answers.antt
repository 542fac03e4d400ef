use Rattle.std.proofs.Common.{rules}
use Rattle.jc_rules.proofs.trace.Trace.up.Goals as goal

-- one less deep
pub returns : goal.returns
returns c = search rules
