use Rattle.std.proofs.Common.{rules}
use Rattle.jc_replica.proofs.replica.Replica.new.Goals as goal

pub returns : goal.returns
returns g c = search rules
