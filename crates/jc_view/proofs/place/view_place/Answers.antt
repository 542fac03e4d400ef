use Rattle.std.proofs.Common.{refl}
use Rattle.jc_rules.specs.ReplicaNames.{name_at}
use Rattle.jc_rules.specs.State.{State}
use Rattle.jc_view.specs.Places.{place_line}
use Rattle.jc_view.proofs.ReplicaViewsLemmas.{chained_of, same_place, line_is}
use Rattle.jc_view.proofs.place.view_place.Goals as goal

pub place_line-requires : goal.place_line-requires
place_line-requires c = chained_of c.args.net.now.history.now.states c.args.p c.in-Some.replica.now _ c.steps-steps.ensures.reached c.in-Some.ensures.some refl

pub returns-clause-view : goal.returns-clause-view
returns-clause-view c = λ A there.
    let names = c.args.net.now.names in
    let p = c.args.p in
    let cursor = c.args.cursor.now in
    let replica = c.in-Some.replica.now in
    let same = same_place names (name_at names p) cursor c.args.net.now.history.now.states p replica A c.steps-steps.ensures.reached c.in-Some.ensures.some there in
    line_is (λ ns n (S : State). place_line ns n S cursor) names _ _ p replica.history.now A _ c.in_ok-place_line.ensures c.name_at.ensures c.names-names.ensures.names same
