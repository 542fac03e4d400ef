use Rattle.std.proofs.Common.{rules}
use Rattle.jc_cursor.proofs.bound.Bound.copy.Goals as goal

pub returns-in_ok-copy-in-Cursor : goal.returns-in_ok-copy-in-Cursor
returns-in_ok-copy-in-Cursor c = search rules
