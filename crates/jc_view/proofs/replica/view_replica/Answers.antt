use Rattle.std.proofs.Common.{refl}
use Rattle.jc_rules.specs.ReplicaNames.{name_at}
use Rattle.jc_view.specs.Visible.{view_line}
use Rattle.jc_view.proofs.ReplicaViewsLemmas.{chained_of, same_view, line_is}
use Rattle.jc_view.proofs.replica.view_replica.Goals as goal

pub view_line-requires : goal.view_line-requires
view_line-requires c = chained_of c.args.net.now.history.now.states c.args.p c.in-Some.replica.now _ c.steps-steps.ensures.reached c.in-Some.ensures.some refl

pub returns-clause-view : goal.returns-clause-view
returns-clause-view c = λ A there.
    let names = c.args.net.now.names in
    let p = c.args.p in
    let replica = c.in-Some.replica.now in
    let same = same_view names (name_at names p) c.args.net.now.history.now.states p replica A c.steps-steps.ensures.reached c.in-Some.ensures.some there in
    line_is view_line names _ _ p replica.history.now A _ c.in_ok-view_line.ensures c.name_at.ensures c.names-names.ensures.names same
