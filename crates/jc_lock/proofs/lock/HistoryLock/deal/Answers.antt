use Rattle.std.proofs.Common.{rules, arith, ◌≡◌, ◌≤◌}
use Rattle.jc_lock.proofs.DealLemmas.{deal_keeps}
use Rattle.jc_lock.proofs.lock.HistoryLock.deal.Goals as goal

pub split_seat-seat-requires : goal.split_seat-seat-requires
split_seat-seat-requires g c = let v = c.args.seat.now.me.0 in let same : v.share ≡ c.args.terms.now.takes = c.requires.share in let enough : c.args.terms.now.takes ≤ v.left = c.requires.enough in
    (search rules, search rules, deal_keeps g.K.Kept.origin g.K.Kept.list g.K.Kept.maker _ _ _ c.requires.rests (omega arith))
