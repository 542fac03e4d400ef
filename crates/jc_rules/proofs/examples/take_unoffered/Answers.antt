use Rattle.std.specs.Prelude.{refl}
use Rattle.jc_rules.specs.Refused.{not_offered, question_refused}
use Rattle.jc_rules.proofs.examples.take_unoffered.Goals as goal

pub returns : goal.returns
returns c = question_refused refl refl tt (not_offered refl refl)
