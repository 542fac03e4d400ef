use Rattle.std.proofs.Common.{arith}
use Rattle.std.proofs.lemmas.Grind.{common_steps}
use Rattle.jc_lock.proofs.lock.HistoryLock.give.Goals as goal

pub pass_on-requires-clause-whole : goal.pass_on-requires-clause-whole
pass_on-requires-clause-whole g c = grind (arith, common_steps)
