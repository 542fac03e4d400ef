use Rattle.std.proofs.Common.{rules}
use Rattle.jc_scenario.proofs.printing.print.Goals as goal

-- the header, the replicas and the schedule
pub returns : goal.returns
returns c = search rules
