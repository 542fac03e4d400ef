use Rattle.std.proofs.Common.{subst}
use Rattle.std.proofs.lemmas.Result.{err_from_is_err_and}
use Rattle.jc_looks.specs.LookFaults.{RefusesBy}
use Rattle.jc_serve.specs.Answers.{bad_place}
use Rattle.jc_serve.specs.Asking.{IsBadExpression}
use Rattle.jc_serve.proofs.FindsLemmas.{refuses_weaker}
use Rattle.jc_serve.proofs.stuck.GivenStop.check_place.Goals as goal

pub returns-in_err-expression_at : goal.returns-in_err-expression_at
returns-in_err-expression_at c =
    let q = err_from_is_err_and c.from_residual.result c.from_residual.ensures.1 in
    rw (q.1, q.2) (refuses_weaker _ (λ answer bad. bad_place bad) (subst (λ ns. RefusesBy (IsBadExpression ns c.args.name.now c.args.text.now) c.in_err-expression_at.field-0.0) c.names.ensures c.in_err-expression_at.ensures))
