use Rattle.std.proofs.Common.{rules}
use Rattle.jc_rules.proofs.trace.Trace.cut.Goals as goal

-- rows and depth
pub returns : goal.returns
returns c = search rules
