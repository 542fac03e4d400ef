use Rattle.std.proofs.Common.{rules}
use Rattle.jc_syntax.proofs.fault.LexFault.place.Goals as goal

-- the place that the fault has
pub returns-in-BadByte : goal.returns-in-BadByte
returns-in-BadByte c = search rules
