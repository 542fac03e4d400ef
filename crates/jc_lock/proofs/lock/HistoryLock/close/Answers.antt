use Rattle.std.proofs.Common.{rules, ◌≡◌, length, map, sym, ap, ◌∙◌, subst}
use Rattle.std.proofs.lemmas.Bool.{false≢true}
use Rattle.jc_lock.specs.Knowledge.{AllTrueOf}
use Rattle.jc_lock.specs.Gathered.{KnowsAll}
use Rattle.jc_lock.specs.Shows.{lock_passes, pass_number}
use Rattle.jc_lock.proofs.GatheredLemmas.{knows_all, some_pass, all_seen, all_mine, each_of}
use Rattle.jc_lock.proofs.lock.HistoryLock.close.Goals as goal

pub returns-then-not-complete-clause-when : goal.returns-then-not-complete-clause-when
returns-then-not-complete-clause-when g c =
    let long : length c.as_mut_slice.result.now ≡ lock_passes c.args.self = c.as_mut_slice.ensures.len ∙ c.args.self.marked in (
      λ e. absurd (false≢true e),
      λ each. sym c.if-not-complete.true ∙ c.each_is_there-complete.ensures.1 (each_of _ _ _ _ (sym long) (ap (map pass_number) (sym c.as_slice.ensures.value)) each),
    )

pub gather-seat-requires-clause-some : goal.gather-seat-requires-clause-some
gather-seat-requires-clause-some g c =
    let long : length c.as_mut_slice.result.now ≡ lock_passes c.args.self = c.as_mut_slice.ensures.len ∙ c.args.self.marked in
    let each = each_of _ _ _ _ long (ap (map pass_number) c.as_slice.ensures.value) (c.each_is_there-complete.ensures.0 c.if-not-complete.false) in
    let some = some_pass (lock_passes c.args.self) c.args.passes.items c.args.self.some_pass each in
    search rules

pub into_value-requires-clause-all : goal.into_value-requires-clause-all
into_value-requires-clause-all g c =
    let long : length c.as_mut_slice.result.now ≡ lock_passes c.args.self = c.as_mut_slice.ensures.len ∙ c.args.self.marked in
    let each = each_of _ _ _ _ long (ap (map pass_number) c.as_slice.ensures.value) (c.each_is_there-complete.ensures.0 c.if-not-complete.false) in
    subst (KnowsAll (lock_passes c.args.self)) (sym c.gather-seat.ensures.known) (knows_all (lock_passes c.args.self) c.args.passes.items each)

pub returns-clause-seen : goal.returns-clause-seen
returns-clause-seen g c = all_seen g.K.Kept.maker (g.K.Kept.list c.into_value.result) c.args.passes.items (subst (AllTrueOf g.K.Kept.maker (g.K.Kept.list c.into_value.result)) c.gather-seat.ensures.known c.into_value.ensures.known)

pub returns-clause-mine : goal.returns-clause-mine
returns-clause-mine g c = all_mine g.K.Kept.maker (g.K.Kept.list c.into_value.result) c.args.passes.items (subst (AllTrueOf g.K.Kept.maker (g.K.Kept.list c.into_value.result)) c.gather-seat.ensures.known c.into_value.ensures.known)
