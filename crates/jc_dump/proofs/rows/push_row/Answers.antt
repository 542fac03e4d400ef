use Rattle.std.proofs.Common.{rules, append_assoc, subst, IsUtf8}
use Rattle.jc_dump.proofs.rows.push_row.Goals as goal

pub returns-clause-line : goal.returns-clause-line
returns-clause-line c = search (rules, append_assoc)

pub returns-clause-name : goal.returns-clause-name
returns-clause-name c = subst IsUtf8 c.name-name.ensures c.name-name.utf8
