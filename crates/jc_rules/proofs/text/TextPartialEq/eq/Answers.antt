use Rattle.std.proofs.Common.{rules}
use Rattle.jc_rules.proofs.text.TextPartialEq.eq.Goals as goal

-- the same bytes
pub returns : goal.returns
returns c = search rules
