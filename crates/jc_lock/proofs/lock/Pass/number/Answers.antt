use Rattle.std.proofs.Common.{rules}
use Rattle.jc_lock.proofs.lock.Pass.number.Goals as goal

pub returns : goal.returns
returns g c = search rules
