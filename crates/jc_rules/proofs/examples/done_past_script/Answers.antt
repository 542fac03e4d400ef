use Rattle.std.specs.Prelude.{refl}
use Rattle.jc_rules.specs.Refused.{no_yield}
use Rattle.jc_rules.proofs.examples.done_past_script.Goals as goal

pub returns : goal.returns
returns c = no_yield tt refl
