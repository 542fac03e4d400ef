use Rattle.std.proofs.Common.{rules}
use Rattle.jc_parser.proofs.parse_fault.ParseFault.of_scenario.Goals as goal

pub returns-in-IndexTooLarge : goal.returns-in-IndexTooLarge
returns-in-IndexTooLarge c = search rules
