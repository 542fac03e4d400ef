use Rattle.std.proofs.Common.{rules}
use Rattle.jc_rules.proofs.trace.Trace.mark.Goals as goal

-- the depth now
pub returns-clause-depth : goal.returns-clause-depth
returns-clause-depth c = search rules
