use Rattle.std.proofs.Common.{rules}
use Rattle.jc_cursor.proofs.select.path_below.Goals as goal

pub returns-clause-short : goal.returns-clause-short
returns-clause-short c = search rules
