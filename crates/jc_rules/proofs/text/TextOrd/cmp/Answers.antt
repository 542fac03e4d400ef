use Rattle.std.proofs.Common.{rules}
use Rattle.jc_rules.proofs.text.TextOrd.cmp.Goals as goal

-- the order of the bytes
pub returns : goal.returns
returns c = search rules
