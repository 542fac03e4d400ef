use Rattle.std.proofs.Common.{rules}
use Rattle.jc_fakes.proofs.FailsAt.is_due.Goals as goal

-- one call less is left
pub returns-clause-counted : goal.returns-clause-counted
returns-clause-counted g c = search rules
