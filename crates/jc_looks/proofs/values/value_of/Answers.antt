use Rattle.jc_syntax.specs.Trees.{expr_of}
use Rattle.jc_cursor.specs.Bounds.{bound_of}
use Rattle.jc_view.proofs.ReplicaViewsLemmas.{chained_of}
use Rattle.jc_looks.proofs.LooksLemmas.{gives_in, refused_in}
use Rattle.jc_looks.proofs.values.value_of.Goals as goal

pub eval_in_map-requires : goal.eval_in_map-requires
eval_in_map-requires c = chained_of c.args.net.now.history.now.states c.args.p c.in-Some.replica.now _ c.steps-steps.ensures.reached c.in-Some.ensures.some c.tree.ensures

pub returns-in-Ok : goal.returns-in-Ok
returns-in-Ok c = gives_in c.args.net.now.history.now.states c.args.p c.in-Some.replica.now _ _ (expr_of c.args.expression.now) (bound_of c.in-Ok.bound) _ _ c.in-Some.ensures.some c.tree.ensures c.vars.ensures c.new-trace.ensures c.in-Ok.ensures.ok

pub returns : goal.returns
returns c =
    let told = c.in_ok-no_value-in-Err.ensures in
    refused_in c.args.net.now.history.now.states c.args.p c.in-Some.replica.now _ _ (expr_of c.args.expression.now) _ c.args.net.now.names _ told.0 _ c.in-Some.ensures.some c.tree.ensures c.vars.ensures c.names.ensures.names c.in-Err.ensures.refused told.1 told.2
