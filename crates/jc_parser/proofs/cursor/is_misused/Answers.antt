use Rattle.std.proofs.Common.{rules}
use Rattle.jc_parser.proofs.cursor.is_misused.Goals as goal

pub returns-in_default : goal.returns-in_default
returns-in_default c = search rules
