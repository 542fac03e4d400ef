use Rattle.std.proofs.Common.{rules}
use Rattle.jc_rules.proofs.operation.Op.copy.Goals as goal

-- each field once more
pub returns : goal.returns
returns c = search rules
