use Rattle.std.specs.Prelude.{refl}
use Rattle.jc_rules.proofs.ExamplesLemmas.{stepped, recv}
use Rattle.jc_rules.proofs.examples.receives_own.Goals as goal

pub returns : goal.returns
returns c =
    stepped refl refl (recv refl) refl refl
