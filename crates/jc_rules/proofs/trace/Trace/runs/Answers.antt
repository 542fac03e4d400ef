use Rattle.std.proofs.Common.{rules}
use Rattle.jc_rules.proofs.trace.Trace.runs.Goals as goal

-- all rows
pub returns : goal.returns
returns c = search rules
