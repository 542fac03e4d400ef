use Rattle.std.proofs.Common.{rules}
use Rattle.jc_rules.proofs.trace.Trace.down.Goals as goal

-- one deeper
pub returns : goal.returns
returns c = search rules
