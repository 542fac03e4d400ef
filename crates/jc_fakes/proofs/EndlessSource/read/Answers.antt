use Rattle.std.proofs.Common.{rules}
use Rattle.jc_fakes.proofs.EndlessSource.read.Goals as goal

-- as many as fit
pub returns-clause-full : goal.returns-clause-full
returns-clause-full c = search rules
