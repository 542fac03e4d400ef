use Rattle.std.proofs.Common.{rules}
use Rattle.jc_scenario.proofs.printing.push_event.Goals as goal

-- a line and its end
pub returns : goal.returns
returns c = search rules
