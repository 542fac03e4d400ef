use Rattle.std.proofs.Common.{rules}
use Rattle.jc_fakes.proofs.CountsFlushesSink.flush.Goals as goal

-- one flush more
pub returns-clause-counted : goal.returns-clause-counted
returns-clause-counted g c = search rules
