use Rattle.std.proofs.Common.{rules}
use Rattle.jc_lock.proofs.StepsLemmas.{draw_keeps, single}
use Rattle.jc_lock.proofs.lock.HistoryLock.draw.Goals as goal

pub fetch_add-requires : goal.fetch_add-requires
fetch_add-requires g c = let k = single _ c.requires.single in (search rules, search rules, draw_keeps g.K.Kept.origin g.K.Kept.list g.K.Kept.maker _ _ _ _ c.requires.rests c.requires.left k.0 k.1)
