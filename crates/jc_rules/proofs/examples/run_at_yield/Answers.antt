use Rattle.std.specs.Prelude.{refl}
use Rattle.jc_rules.specs.Refused.{at_yield}
use Rattle.jc_rules.proofs.examples.run_at_yield.Goals as goal

pub returns : goal.returns
returns c = at_yield refl
