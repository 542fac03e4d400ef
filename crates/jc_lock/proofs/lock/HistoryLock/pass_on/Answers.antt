use Rattle.std.proofs.Common.{rules}
use Rattle.jc_lock.proofs.StepsLemmas.{pass_on_keeps, turn_of}
use Rattle.jc_lock.proofs.lock.HistoryLock.pass_on.Goals as goal

pub fetch_add-requires : goal.fetch_add-requires
fetch_add-requires g c = let t = turn_of _ c.requires.turn in let m = c.requires.whole in
    (search rules, search rules, pass_on_keeps g.K.Kept.origin g.K.Kept.list g.K.Kept.maker _ _ _ (search rules) _ t.0 m.0 t.1 m.1 m.2 m.3)
