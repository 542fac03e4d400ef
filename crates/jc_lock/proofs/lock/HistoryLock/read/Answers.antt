use Rattle.std.proofs.Common.{rules}
use Rattle.jc_lock.proofs.StepsLemmas.{read_keeps, single}
use Rattle.jc_lock.proofs.lock.HistoryLock.read.Goals as goal

pub load-requires : goal.load-requires
load-requires g c = let k = single _ c.requires.single in (search rules, search rules, read_keeps g.K.Kept.origin g.K.Kept.list g.K.Kept.maker _ _ _ _ c.requires.rests k.0 k.1)
