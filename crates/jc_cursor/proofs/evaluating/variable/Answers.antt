use Rattle.jc_cursor.specs.Bounds.{vars_in}
use Rattle.jc_cursor.proofs.EvaluatesLemmas.{var_evaluated, var_unbound}
use Rattle.jc_cursor.proofs.evaluating.variable.Goals as goal

pub returns-in_default-clause-refused : goal.returns-in_default-clause-refused
returns-in_default-clause-refused c = λ d. var_unbound d (vars_in c.args.vars) c.args.name.now c.in_default.ensures

pub returns-clause-ok : goal.returns-clause-ok
returns-clause-ok c = λ d. var_evaluated d (vars_in c.args.vars) c.args.name.now c.in-Some.bound.now _ _ _ c.in-Some.ensures c.in_ok-copy.ensures c.in_ok-push.ensures.ok
