use Rattle.std.specs.Prelude.{refl}
use Rattle.std.proofs.Common.{arith}
use Rattle.jc_rules.proofs.ExamplesLemmas.{worked, exec, let_in, doc, get, keys1, keys2, keys3}
use Rattle.jc_rules.proofs.examples.keys_of_inner_map.Goals as goal

pub returns : goal.returns
returns c =
    worked
    (exec refl (λ e. cc)
    (let_in (keys1 (get doc (λ e. cc) (omega arith)) (keys3 refl refl (keys2 refl refl)))))
    refl refl
