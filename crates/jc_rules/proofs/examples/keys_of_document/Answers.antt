use Rattle.std.specs.Prelude.{refl}
use Rattle.jc_rules.proofs.ExamplesLemmas.{worked, exec, let_in, doc, keys1, keys2}
use Rattle.jc_rules.proofs.examples.keys_of_document.Goals as goal

pub returns : goal.returns
returns c =
    worked
    (exec refl (λ e. cc)
    (let_in (keys1 doc (keys2 refl refl))))
    refl refl
