use Rattle.std.proofs.Common.{arith}
use Rattle.std.proofs.lemmas.Grind.{common_steps}
use Rattle.jc_syntax.proofs.number.after_fraction.Goals as goal

-- what stands behind the digits after a dot
pub returns-then-first-eq46 : goal.returns-then-first-eq46
returns-then-first-eq46 c = grind (arith, common_steps)
