use Rattle.std.proofs.Common.{◌<◌, subst, sym, ap, ◌∙◌}
use Rattle.std.specs.Prelude.{All}
use mathlib.Core.Option.{some-injective}
use Rattle.jc_lock.specs.Knowledge.{AllTrueOf}
use Rattle.jc_lock.specs.Shows.{lock_passes}
use Rattle.jc_lock.proofs.GatheredLemmas.{close_gives, same_some, some_not_none}
use Rattle.jc_lock.proofs.lock.HistoryLock.into_value.Goals as goal

pub unreachable-requires : goal.unreachable-requires
unreachable-requires g c =
    let home = close_gives g.K.Kept.origin g.K.Kept.list g.K.Kept.maker c.args.self.table.shared.key c.args.seat.id c.args.seat.me.0 c.requires.rests c.requires.all _ _ c.close_with-closed.ensures.values.2 in
    some_not_none home.0 (sym (some-injective _ _ (sym c.take-slot.ensures.value ∙ home.1)) ∙ c.in-None.is)

pub returns-clause-origin : goal.returns-clause-origin
returns-clause-origin g c =
    let home = close_gives g.K.Kept.origin g.K.Kept.list g.K.Kept.maker c.args.self.table.shared.key c.args.seat.id c.args.seat.me.0 c.requires.rests c.requires.all _ _ c.close_with-closed.ensures.values.2 in
    let same = same_some _ c.in-Some.value home.0 c.in-Some.is (some-injective _ _ (sym c.take-slot.ensures.value ∙ home.1)) in
    ap g.K.Kept.origin same ∙ home.2

pub returns-clause-known : goal.returns-clause-known
returns-clause-known g c =
    let home = close_gives g.K.Kept.origin g.K.Kept.list g.K.Kept.maker c.args.self.table.shared.key c.args.seat.id c.args.seat.me.0 c.requires.rests c.requires.all _ _ c.close_with-closed.ensures.values.2 in
    let same = same_some _ c.in-Some.value home.0 c.in-Some.is (some-injective _ _ (sym c.take-slot.ensures.value ∙ home.1)) in
    subst (λ v. AllTrueOf g.K.Kept.maker (g.K.Kept.list v) c.args.seat.me.0.knows) (sym same) home.3

pub returns-clause-makers : goal.returns-clause-makers
returns-clause-makers g c =
    let home = close_gives g.K.Kept.origin g.K.Kept.list g.K.Kept.maker c.args.self.table.shared.key c.args.seat.id c.args.seat.me.0 c.requires.rests c.requires.all _ _ c.close_with-closed.ensures.values.2 in
    let same = same_some _ c.in-Some.value home.0 c.in-Some.is (some-injective _ _ (sym c.take-slot.ensures.value ∙ home.1)) in
    subst (λ v. All (λ e. g.K.Kept.maker e < lock_passes c.args.self) (g.K.Kept.list v)) (sym same) home.4
