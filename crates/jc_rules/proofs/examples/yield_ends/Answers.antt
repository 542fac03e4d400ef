use Rattle.std.specs.Prelude.{refl}
use Rattle.jc_rules.proofs.ExamplesLemmas.{worked, done}
use Rattle.jc_rules.proofs.examples.yield_ends.Goals as goal

pub returns : goal.returns
returns c =
    worked
    (done refl refl)
    refl refl
