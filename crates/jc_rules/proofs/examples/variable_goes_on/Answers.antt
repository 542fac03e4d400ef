use Rattle.std.specs.Prelude.{refl}
use Rattle.std.proofs.Common.{arith}
use Rattle.jc_rules.proofs.ExamplesLemmas.{worked, exec, let_in, var, get}
use Rattle.jc_rules.proofs.examples.variable_goes_on.Goals as goal

pub returns : goal.returns
returns c =
    worked
    (exec refl (λ e. cc)
    (let_in (get (var refl) (λ e. cc) (omega arith))))
    refl refl
