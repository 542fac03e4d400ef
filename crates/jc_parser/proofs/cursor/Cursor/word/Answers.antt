use Rattle.std.proofs.Common.{rules}
use Rattle.jc_parser.proofs.cursor.Cursor.word.Goals as goal

pub returns : goal.returns
returns c = search rules
