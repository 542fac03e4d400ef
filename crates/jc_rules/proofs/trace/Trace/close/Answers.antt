use Rattle.std.proofs.Common.{rules}
use Rattle.jc_rules.proofs.trace.Trace.close.Goals as goal

-- the depth alone
pub returns : goal.returns
returns c = search rules
