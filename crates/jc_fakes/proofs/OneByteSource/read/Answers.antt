use Rattle.std.proofs.Common.{rules}
use Rattle.jc_fakes.proofs.OneByteSource.read.Goals as goal

-- at most one byte
pub returns-clause-one : goal.returns-clause-one
returns-clause-one g c = search rules
