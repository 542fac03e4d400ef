use Rattle.std.specs.Prelude.{refl}
use Rattle.jc_rules.specs.Refused.{no_command}
use Rattle.jc_rules.proofs.examples.run_past_script.Goals as goal

pub returns : goal.returns
returns c = no_command refl
