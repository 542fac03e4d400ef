use Rattle.std.proofs.Common.{rules}
use Rattle.jc_rules.proofs.path.Path.push.Goals as goal

-- the key is the last
pub returns-clause-ok : goal.returns-clause-ok
returns-clause-ok c = search rules
