use Rattle.std.proofs.Common.{rules}
use Rattle.jc_rules.proofs.operation.Event.replica.Goals as goal

-- the one that takes
pub returns-in-Recv : goal.returns-in-Recv
returns-in-Recv c = search rules

pub returns-in-Take : goal.returns-in-Take
returns-in-Take c = search rules
