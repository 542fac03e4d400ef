use Rattle.std.specs.Prelude.{refl}
use Rattle.jc_rules.proofs.ExamplesLemmas.{worked, send}
use Rattle.jc_rules.proofs.examples.sends_made.Goals as goal

pub returns : goal.returns
returns c =
    worked
    (send refl)
    refl refl
