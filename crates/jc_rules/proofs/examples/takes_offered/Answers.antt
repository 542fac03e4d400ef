use Rattle.std.specs.Prelude.{refl}
use Rattle.jc_rules.proofs.ExamplesLemmas.{worked, take_one}
use Rattle.jc_rules.proofs.examples.takes_offered.Goals as goal

pub returns : goal.returns
returns c =
    worked
    (take_one refl refl)
    refl refl
