use Rattle.std.specs.Prelude.{refl}
use Rattle.std.proofs.Common.{arith}
use Rattle.jc_rules.proofs.ExamplesLemmas.{worked, exec, let_in, doc, get, val1, val2, val3}
use Rattle.jc_rules.proofs.examples.values_of_register.Goals as goal

pub returns : goal.returns
returns c =
    worked
    (exec refl (λ e. cc)
    (let_in (val1 (get doc (λ e. cc) (omega arith)) (val3 refl refl (val2 refl refl)))))
    refl refl
