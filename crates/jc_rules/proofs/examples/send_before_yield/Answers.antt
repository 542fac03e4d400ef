use Rattle.std.specs.Prelude.{refl}
use Rattle.jc_rules.specs.Refused.{not_at_yield}
use Rattle.jc_rules.proofs.examples.send_before_yield.Goals as goal

pub returns : goal.returns
returns c = not_at_yield tt refl (λ e. cc)
