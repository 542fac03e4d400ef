use Rattle.std.proofs.Common.{inl}
use Rattle.std.proofs.lemmas.Result.{err_from_is_err_and}
use Rattle.jc_rules.specs.ReplicaNames.{name_at}
use Rattle.jc_syntax.specs.Trees.{expr_of}
use Rattle.jc_cursor.specs.Bounds.{bound_of}
use Rattle.jc_looks.specs.Looks.{viewed_text}
use Rattle.jc_looks.proofs.LooksLemmas.{refused_shows}
use Rattle.jc_looks.proofs.looks.place_shown.Goals as goal

pub returns-in_err-bound : goal.returns-in_err-bound
returns-in_err-bound c =
    let names = c.args.net.now.names in
    let p = c.args.p in
    let q = err_from_is_err_and c.from_residual.result c.from_residual.ensures.1 in
    rw (q.1, q.2) (refused_shows (λ A. viewed_text names (name_at names p) A) names c.args.net.now.history.now.states p (expr_of c.args.expression.now) _ c.in_err-bound.ensures)

pub returns : goal.returns
returns c =
    let found = c.in_ok-bound.ensures in
    (found.0, found.1, inl (bound_of c.in_ok-bound.bound, found.2, c.in_ok-viewed.ensures found.0 found.1))
