use Rattle.std.proofs.Common.{rules}
use Rattle.jc_parser.proofs.fault.ScenarioFault.place.Goals as goal

pub returns-in-BadByte : goal.returns-in-BadByte
returns-in-BadByte c = search rules
