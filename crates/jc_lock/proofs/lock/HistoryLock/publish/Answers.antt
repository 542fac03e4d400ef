use Rattle.std.proofs.Common.{rules, ap, ◌∙◌, ◌++◌, ◌∷◌, []}
use Rattle.jc_lock.specs.Knowledge.{seen_in, number_in}
use Rattle.jc_lock.proofs.StepsLemmas.{publish_keeps, single, turn_of}
use Rattle.jc_lock.proofs.lock.HistoryLock.publish.Goals as goal

pub fetch_add-requires : goal.fetch_add-requires
fetch_add-requires g c = let k = single _ c.requires.single in let t = turn_of _ c.requires.turn in let m = c.requires.more in
    (search rules, search rules, publish_keeps g.K.Kept.origin g.K.Kept.list g.K.Kept.maker _ _ _ _ t.0 m.0 m.1 k.0 t.1 m.2 k.1 (m.3 ∙ ap (λ l. seen_in l ++ m.1 ∷ []) k.1) (m.4 ∙ ap number_in k.1) m.5)
