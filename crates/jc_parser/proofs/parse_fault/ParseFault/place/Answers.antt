use Rattle.std.proofs.Common.{rules}
use Rattle.jc_parser.proofs.parse_fault.ParseFault.place.Goals as goal

pub returns : goal.returns
returns c = search rules
