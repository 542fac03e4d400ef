use Rattle.std.specs.Prelude.{refl, ◌≡◌, true, false}
use Rattle.jc_rules.specs.Examples.{by_a}
use Rattle.jc_rules.specs.Examples.Registers.{assign_two}
use Rattle.jc_rules.specs.Refused.{deps_missing}
use Rattle.jc_rules.proofs.examples.dependency_missing.Goals as goal

pub returns : goal.returns
returns c = deps_missing {o = assign_two} refl refl refl (λ h. let g : false ≡ true = h (by_a 1) refl in cc)
