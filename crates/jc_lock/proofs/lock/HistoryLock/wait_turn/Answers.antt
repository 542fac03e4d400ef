use Rattle.std.proofs.Common.{rules, ap, ◌∙◌, length}
use Rattle.jc_lock.proofs.StepsLemmas.{look_keeps, single}
use Rattle.jc_lock.proofs.lock.HistoryLock.wait_turn.Goals as goal

pub load-due-requires : goal.load-due-requires
load-due-requires g c = let same = c.loop.invariant.2 in let k = single _ (ap (λ m. length m.0.knows) same ∙ c.requires.single) in
    (search rules, search rules, look_keeps g.K.Kept.origin g.K.Kept.list g.K.Kept.maker _ _ _ _ c.args.ticket (ap (λ m. m.0.stage) same ∙ c.requires.waits) k.0 k.1)
