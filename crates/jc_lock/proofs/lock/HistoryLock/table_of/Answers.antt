use Rattle.std.proofs.Common.{rules, ◌≡◌, ap, sym, subst, Some, [], ◌∷◌}
use Rattle.atomic_table.specs.Table.{opening}
use Rattle.jc_lock.specs.Rules.{IsKept}
use Rattle.jc_lock.specs.Steps.{first_dealer}
use Rattle.jc_lock.proofs.DealLemmas.{open_keeps}
use Rattle.jc_lock.proofs.lock.HistoryLock.table_of.Goals as goal

pub new-requires : goal.new-requires
new-requires g c = let e : c.in_ok-slots.slots.items ≡ Some c.args.value ∷ [] = search rules in
    subst (λ l. IsKept g.K.Kept.origin g.K.Kept.list g.K.Kept.maker c.args.terms.now (opening (0 ∷ 0 ∷ 0 ∷ []) l (first_dealer g.K.Kept.origin c.args.terms.now))) (sym e)
    (open_keeps g.K.Kept.origin g.K.Kept.list g.K.Kept.maker c.args.terms.now c.args.value c.requires.small (ap g.K.Kept.origin (sym c.requires.opened)) c.requires.empty)
