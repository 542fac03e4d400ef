use Rattle.std.proofs.Common.{rules}
use Rattle.jc_lock.proofs.lock.HistoryLock.count.Goals as goal

pub returns-clause-count : goal.returns-clause-count
returns-clause-count g c = search rules
