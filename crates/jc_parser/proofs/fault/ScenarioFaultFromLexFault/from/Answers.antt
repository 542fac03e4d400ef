use Rattle.std.proofs.Common.{rules}
use Rattle.jc_parser.proofs.fault.ScenarioFaultFromLexFault.from.Goals as goal

pub returns-in-OpenString : goal.returns-in-OpenString
returns-in-OpenString c = search rules
