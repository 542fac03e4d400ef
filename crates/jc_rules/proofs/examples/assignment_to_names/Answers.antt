use Rattle.std.specs.Prelude.{refl}
use Rattle.jc_rules.specs.Refused.{in_command, not_a_cursor}
use Rattle.jc_rules.proofs.ExamplesLemmas.{answered, var}
use Rattle.jc_rules.proofs.examples.assignment_to_names.Goals as goal

pub returns : goal.returns
returns c = in_command refl (λ e. cc) (not_a_cursor refl tt (answered (var {n = 0} refl)) (λ h. h))
