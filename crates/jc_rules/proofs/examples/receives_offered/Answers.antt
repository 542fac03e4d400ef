use Rattle.std.specs.Prelude.{refl}
use Rattle.jc_rules.proofs.ExamplesLemmas.{worked, recv}
use Rattle.jc_rules.proofs.examples.receives_offered.Goals as goal

pub returns : goal.returns
returns c =
    worked
    (recv refl)
    refl refl
